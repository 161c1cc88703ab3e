-- Calls that stations made one after another are a run.
use Rattle.std.proofs.Common.{ℕ, Bool, List, [], ◌∷◌, refl, subst}
use Rattle.bac_protocol.specs.Pace.{IsTimely}
use Rattle.bac_world.specs.LongApdus.{TakeLongApdus}
use Rattle.bac_world.specs.ReusingLogs.{Reuses}
use Rattle.bac_world.specs.World.{IsBounded, IsFresh}
use Rattle.bac_world.specs.World.{passes}
use Rattle.bac_driver.specs.BoundNodes.{BoundNode}
use Rattle.bac_plant.specs.Anew.{Anew, HappensAnew}
use Rattle.bac_plant.specs.Anew.Anew.{RestartsSo, StartsAgainSo}
use Rattle.bac_plant.specs.Composed.{AreCalled, IsAsCalled, IsCalled, IsComposed, StandsAt, upon}
use Rattle.bac_plant.specs.LongApdus.{AllAskLong, IsReachedLong, RepliesFitBefore}
use Rattle.bac_plant.specs.Moves.{CallsComposeIn, IsAsCalledIn, IsCalledIn, IsReachedIn, MayStart, Move, Moves}
use Rattle.bac_plant.specs.Moves.Move.{Goes, StartsAnew}
use Rattle.bac_plant.specs.NextSteps.{AsksGoOn, HeldTurnsGoOn, IsReached, LeadsTo, TurnsGoOn}
use Rattle.bac_plant.specs.Plants.{Plant, world_of}
use Rattle.bac_plant.specs.Steps.{PlantRun, PlantStep, Step}
use Rattle.bac_plant.specs.Steps.Step.{Begins, BeginsAway, Changes, FailsToReceive, Holds, Passes, Restarts, SendsHeld, Starts, StartsAgain, Takes}
use Rattle.bac_plant.proofs.Anew.{restarts_anew_go_on, starts_anew_go_on}
use Rattle.bac_plant.proofs.Moves.{reached_anew, reached_step}
use Rattle.bac_plant.proofs.Next.{asks_go_on_in, held_turns_go_on_in, turns_go_on_in}
use Rattle.bac_plant.proofs.Next.{asks_go_on, asks_go_on_long, changes_go_on, failures_go_on, held_sends_go_on, held_turns_go_on, held_turns_go_on_long, restarts_go_on}
use Rattle.bac_plant.proofs.Next.{starts_again_go_on, starts_go_on, strangers_asked_go_on, turns_go_on, turns_go_on_long}

-- a plant after a step, where its station is as the call left it
Next : (overtake : ℕ) (p : Plant) (step : Step) → IsCalled overtake p step → Type 0
Next overtake p step call = (next : Plant) × PlantStep overtake p step next × IsAsCalled overtake p step call next

led : (overtake : ℕ) (p : Plant) (step : Step) (i : ℕ) (after : BoundNode) → LeadsTo overtake p step i after
    → (next : Plant) × PlantStep overtake p step next × StandsAt next i after
led overtake p step i after l = (l.new, l.goes, l.there)

module _ (overtake : ℕ) (p : Plant) (turns : TurnsGoOn overtake p) (held : HeldTurnsGoOn overtake p) (asks : AsksGoOn overtake p) where
  called : (step : Step) (call : IsCalled overtake p step) → Next overtake p step call
  unfolding Next
  called (Passes by own) c = (record p { time = passes p.time by own }, refl, tt)
  called (Takes i source turn) c =
      led overtake p (Takes i source turn) i c.after (turns i c.before c.at c.full turn c.after c.turned source c.came)
  called (FailsToReceive i) c = led overtake p (FailsToReceive i) i c.new.bound_node (failures_go_on overtake p i c.old c.new c.at c.failed)
  called (Begins i server limits request) c =
      led overtake p (Begins i server limits request) i c.after
      (asks i server c.before c.at c.link c.peer limits request c.ticket c.after c.begun)
  called (BeginsAway i peer limits request) c =
      led overtake p (BeginsAway i peer limits request) i c.after
      (strangers_asked_go_on overtake p i c.before c.at peer c.stranger limits request c.ticket c.after c.begun)
  called (Changes i change) c = led overtake p (Changes i change) i c.after (changes_go_on overtake p i c.before c.at change c.after c.made)
  called (Restarts i exact store) c =
      led overtake p (Restarts i exact store) i c.after (restarts_go_on overtake p i c.before c.at exact store c.after c.node c.rules)
  called (Starts i exact) c =
      let s = c.started in
      led overtake p (Starts i exact) i s.after (starts_go_on overtake p i s.before s.at c.first exact s.after s.node s.rules)
  called (StartsAgain i exact first_id store) c =
      let s = c.started in
      led overtake p (StartsAgain i exact first_id store) i s.after
      (starts_again_go_on overtake p i s.before s.at c.quiet exact first_id store s.after s.node s.rules)
  called (Holds i source turn) c =
      led overtake p (Holds i source turn) i c.after (held i c.before c.at c.full turn c.after c.turned source c.came)
  called (SendsHeld i sent) c = led overtake p (SendsHeld i sent) i c.after (held_sends_go_on overtake p i c.before c.at sent c.after c.sent)

pub composed : (W overtake : ℕ) (first : Plant) → IsFresh (world_of first) → IsTimely first.time.pace → IsBounded W overtake (world_of first)
    → (so_far : List Step) (p : Plant) → PlantRun overtake so_far first p → (later : List Step) → AreCalled overtake later p
    → IsComposed overtake first (upon later so_far)
unfolding Next
composed W overtake first fresh timely bounded so_far p run [] calls = record { last = p; run = run }
composed W overtake first fresh timely bounded so_far p run (step ∷ later) calls =
    let r : IsReached W overtake p = record { first = first; fresh = fresh; timely = timely; bounded = bounded; steps = so_far; run = run } in
    let next = called overtake p (turns_go_on W overtake p r) (held_turns_go_on W overtake p r) (asks_go_on W overtake p r) step calls.0 in
    composed W overtake first fresh timely bounded (step ∷ so_far) next.0 (record { middle = p; so_far = run; last = next.1 }) later
    (calls.1 next.0 next.1 next.2)

pub composed_long : (W overtake : ℕ) (first : Plant) → IsFresh (world_of first) → IsTimely first.time.pace → TakeLongApdus W (world_of first)
    → (so_far : List Step) → AllAskLong so_far → (p : Plant) → PlantRun overtake so_far first p → (later : List Step) → AllAskLong later
    → AreCalled overtake later p → RepliesFitBefore overtake later p → IsComposed overtake first (upon later so_far)
unfolding Next
composed_long W overtake first fresh timely long so_far asked p run [] asks calls fit = record { last = p; run = run }
composed_long W overtake first fresh timely long so_far asked p run (step ∷ later) asks calls fit =
    let r : IsReachedLong W overtake p =
    record { first = first; fresh = fresh; timely = timely; long = long; steps = so_far; asks = asked; run = run; fits = fit.0 } in
    let next = called overtake p (turns_go_on_long W overtake p r) (held_turns_go_on_long W overtake p r) (asks_go_on_long W overtake p r) step calls.0 in
    composed_long W overtake first fresh timely long (step ∷ so_far) (asks.0, asked) next.0 (record { middle = p; so_far = run; last = next.1 }) later asks.1
    (calls.1 next.0 next.1 next.2) (fit.1 next.0 next.1)

-- Over starts with other settings.

called_anew : (overtake : ℕ) (p : Plant) (anew : Anew) (call : IsCalledIn overtake p (StartsAnew anew))
    → (next : Plant) × HappensAnew p anew next × IsAsCalledIn overtake p (StartsAnew anew) call next
called_anew overtake p (RestartsSo i exact store settings reuses) c =
    let next = restarts_anew_go_on p i c.before c.at exact store settings c.after c.node in
    (next.0, subst (λ (b : Bool). HappensAnew p (RestartsSo i exact store settings b) next.0) c.rules next.1, next.2)
called_anew overtake p (StartsAgainSo i exact first_id store settings reuses) c =
    let s = c.started in
    let next = starts_anew_go_on p i s.before s.at c.quiet exact first_id store settings s.after s.node in
    (next.0, subst (λ (b : Bool). HappensAnew p (StartsAgainSo i exact first_id store settings b) next.0) s.rules next.1, next.2)

-- a plant after a move, to which the first plant's run leads too
abbrev pub NextIn : (W overtake : ℕ) (ever : Reuses) (first p : Plant) (move : Move) → IsCalledIn overtake p move → (later : List Move) → Type 0
NextIn W overtake ever first p move call later =
    (next : Plant) × Moves overtake p move next × IsAsCalledIn overtake p move call next × IsReachedIn W overtake ever first next × MayStart W ever later

pub moved : (W overtake : ℕ) (ever : Reuses) (first p : Plant) → IsReachedIn W overtake ever first p → (move : Move) (later : List Move)
    → MayStart W ever (move ∷ later) → (call : IsCalledIn overtake p move) → NextIn W overtake ever first p move call later
unfolding Next
moved W overtake ever first p r (Goes step) later may call =
    let next =
    called overtake p (turns_go_on_in W overtake ever first p r) (held_turns_go_on_in W overtake ever first p r) (asks_go_on_in W overtake ever first p r) step
    call in
    (next.0, next.1, next.2, reached_step W overtake ever first p r next.0 step next.1, may)
moved W overtake ever first p r (StartsAnew anew) later may call =
    let next = called_anew overtake p anew call in
    (next.0, next.1, next.2, reached_anew W overtake ever first p r next.0 anew may.0 next.1, may.1)

pub composed_in : CallsComposeIn
composed_in W overtake ever first p r [] may calls = record { last = p; run = refl; reached = r }
composed_in W overtake ever first p r (move ∷ later) may calls =
    let next = moved W overtake ever first p r move later may calls.0 in
    let rest = composed_in W overtake ever first next.0 next.3 later next.4 (calls.1 next.0 next.1 next.2) in
    record { last = rest.last; run = (next.0, next.1, rest.run); reached = rest.reached }
