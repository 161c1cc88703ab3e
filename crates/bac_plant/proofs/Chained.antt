-- Turns of one station, one after the other.
use Rattle.std.proofs.Common.{inl, inr, map, ◌≡◌, ◌≢◌, ◌⊎◌, ℕ, max, Bool, true, false, List, [], ◌∷◌, Some, slice_get, slice_set, nat_eq, if◌then◌else◌}
use Rattle.std.proofs.Common.{refl, sym, ap, subst, ◌∙◌, arith}
use Rattle.std.proofs.lemmas.Bool.Decides.{nat_tests}
use Rattle.std.proofs.lemmas.Option.{slice_get_within}
use Rattle.bac_journal.proofs.Lists.{get_set, get_set_other}
use Rattle.bac_driver.specs.BoundNodes.{BoundNode}
use Rattle.bac_driver.specs.Asking.{AskingEnds, AskingFails, Asks, Question, StaysSo, StopsSo}
use Rattle.bac_driver.specs.Pairs.{Pair, Round, TakesRound, turn_of_first}
use Rattle.bac_driver.specs.Runs.{GoesBack, Run, TakesTurn, Timed, TurnFails, timed}
use Rattle.bac_driver.specs.Serving.{Serves, ServingFails, TakesEarlyTurn}
use Rattle.bac_driver.specs.Waits.{AT_ONCE}
use Rattle.bac_driver.specs.declared.question.AskEnd.TheVariants as end
use Rattle.bac_driver.specs.declared.fault.TurnFault.{TurnFault}
use Rattle.bac_driver.specs.declared.fault.TurnFault.TheVariants as fault
use Rattle.bac_driver.specs.Turns.{Turn}
use Rattle.bac_driver.specs.declared.wait_limit.WaitLimit.{WaitLimit}
use Rattle.bac_plant.proofs.Turned.{one_there}
use Rattle.bac_plant.specs.Chains.{AsksAndStops, AsksInChain, Chain, ServesInChain, StopsInChain, TakesSomeTurn, TakesTurnsAlone, turn_of_second, turns_of}
use Rattle.bac_plant.specs.Network.{Source}
use Rattle.bac_plant.specs.Plants.{Plant, shows}
use Rattle.bac_plant.specs.Steps.{PlantRun, Step, TakesTurnAt}
use Rattle.bac_plant.specs.Steps.Step.{Begins, BeginsAway, Changes, FailsToReceive, Holds, Passes, Restarts, SendsHeld, Starts, StartsAgain, Takes}

early_turn : (p : WaitLimit) (old : Timed) (turn : Turn) (new : Timed) → TakesEarlyTurn p old turn new → TakesSomeTurn old.bound_node turn new.bound_node
early_turn p old turn new t = record {
  now = max t.takes.looked t.began;
  is = record { limit = p; began = t.began; is = t.takes.takes };
}

pub served_chain : (p : WaitLimit) (turns : List Turn) (old new : Timed) → Run (TakesEarlyTurn p) turns old new → Chain turns old.bound_node new.bound_node
served_chain p [] old new run = ap (λ (t : Timed). t.bound_node) run
served_chain p (turn ∷ before) old new run = record {
  middle = run.middle.bound_node;
  so_far = served_chain p before old run.middle run.so_far;
  last = early_turn p run.middle turn new run.last;
}

pub serves_chain : (p : WaitLimit) (turns effects : ℕ) (old new : Timed) → Serves p turns effects old new
    → ServesInChain effects old.bound_node new.bound_node
serves_chain p turns effects old new (inl all) =
    record { turns = all.taken; chain = served_chain p all.taken old new all.run; counted = all.counted }
serves_chain p turns effects old new (inr some) = record {
  turns = some.takes.taken;
  chain = subst (λ b. Chain some.takes.taken old.bound_node b) (sym some.stopped.same) (served_chain p some.takes.taken old some.middle some.takes.run);
  counted = some.takes.counted;
}

-- an ask, and what came of waiting for it
asks_first : (q : Question) (p : WaitLimit) (old : Timed) (ticket : ℕ) (asked new : Timed) → Asks q old ticket asked → (turns : List Turn)
    → Chain turns asked.bound_node new.bound_node → AsksInChain q old.bound_node new.bound_node
asks_first q p old ticket asked new a turns chain =
    record { now = a.now; ticket = ticket; asked = asked.bound_node; begun = a.begun; turns = turns; chain = chain }

pub ended_chain : (q : Question) (how : _) (p : WaitLimit) (turns : ℕ) (old new : Timed) → AskingEnds q (end.Ended how) p turns old new
    → AsksInChain q old.bound_node new.bound_node
ended_chain q how p turns old new b =
    let r = b.rest_is in
    asks_first q p old b.ticket b.asked new b.begun (r.last ∷ r.taken)
    (served_chain p (r.last ∷ r.taken) b.asked new (record { middle = r.middle; so_far = r.stays.run; last = r.steps }))

pub waited_chain : (q : Question) (p : WaitLimit) (turns : ℕ) (old new : Timed) → AskingEnds q end.NoEnding p turns old new
    → AsksInChain q old.bound_node new.bound_node
waited_chain q p turns old new b = go b.rest_is
  where
    go : StaysSo p turns b.ticket b.asked new → AsksInChain q old.bound_node new.bound_node
    go (inl all) = asks_first q p old b.ticket b.asked new b.begun all.taken (served_chain p all.taken b.asked new all.stays.run)
    go (inr some) = asks_first q p old b.ticket b.asked new b.begun some.taken
        (subst (λ n. Chain some.taken b.asked.bound_node n) (sym some.failed.same) (served_chain p some.taken b.asked some.middle some.stays.run))

-- turns that were not taken

pub serving_stops : (fault : TurnFault) (p : WaitLimit) (turns : ℕ) (old new : Timed) → ServingFails fault p turns old new → StopsInChain fault old new
serving_stops fault.Link p turns old new f =
    let s = f.stops in
    record { turns = s.takes.taken; middle = s.middle; chain = served_chain p s.takes.taken old s.middle s.takes.run; failed = s.stopped }
serving_stops fault.ClockBack p turns old new f =
    let s = f.stops in
    record { turns = s.takes.taken; middle = s.middle; chain = served_chain p s.takes.taken old s.middle s.takes.run; failed = s.stopped }

stops_after : (fault : TurnFault) (p : WaitLimit) (turns ticket : ℕ) (old new : Timed) → StopsSo p turns (TurnFails fault) ticket old new
    → StopsInChain fault old new
stops_after fault p turns ticket old new s =
    record { turns = s.taken; middle = s.middle; chain = served_chain p s.taken old s.middle s.stays.run; failed = s.failed }

pub asking_stops : (q : Question) (fault : TurnFault) (p : WaitLimit) (turns : ℕ) (old new : Timed) → AskingFails q fault p turns old new
    → GoesBack old new ⊎ AsksAndStops q fault old new
asking_stops q fault.Link p turns old new b = inr (record {
  ticket = b.ticket;
  asked = b.asked;
  asks = b.begun;
  stops = stops_after fault.Link p turns b.ticket b.asked new b.rest_is;
})
asking_stops q fault.ClockBack p turns old new (inl back) = inl back
asking_stops q fault.ClockBack p turns old new (inr b) = inr (record {
  ticket = b.ticket;
  asked = b.asked;
  asks = b.begun;
  stops = stops_after fault.ClockBack p turns b.ticket b.asked new b.rest_is;
})

-- rounds of two stations

timed_turn : (p : WaitLimit) (old : Timed) (turn : Turn) (new : Timed) → TakesTurn p old turn new → TakesSomeTurn old.bound_node turn new.bound_node
timed_turn p old turn new t = record {
  now = max t.takes.looked t.began;
  is = record { limit = p; began = t.began; is = t.takes.takes };
}

pub first_chain : (rounds : List Round) (old new : Pair) → Run TakesRound rounds old new → Chain (map turn_of_first rounds) old.first new.first
first_chain [] old new run = ap (λ (p : Pair). p.first) run
first_chain (round ∷ before) old new run = record {
  middle = run.middle.first;
  so_far = first_chain before old run.middle run.so_far;
  last = timed_turn AT_ONCE (timed run.middle.first run.middle.told) round.of_first (timed new.first run.last.told) run.last.first;
}

pub second_chain : (rounds : List Round) (old new : Pair) → Run TakesRound rounds old new → Chain (map turn_of_second rounds) old.second new.second
second_chain [] old new run = ap (λ (p : Pair). p.second) run
second_chain (round ∷ before) old new run = record {
  middle = run.middle.second;
  so_far = second_chain before old run.middle run.so_far;
  last = timed_turn run.last.wait_limit (timed run.middle.second run.last.told) round.of_second (timed new.second new.told) run.last.second;
}

-- The steps of a station.

-- the station is there after a step of another one, or of itself
pub other_stays : (p : Plant) (i j : ℕ) (b : BoundNode) (new : List BoundNode) → new ≡ slice_set p.stations j b → (j ≢ i) → slice_get new i ≡ slice_get p.stations i
other_stays p i j b new is ne = ap (λ l. slice_get l i) is ∙ get_set_other p.stations j i b (λ e. ne (sym e))

pub self_is : (p : Plant) (i : ℕ) (a b : BoundNode) (new : List BoundNode) → slice_get p.stations i ≡ Some a → new ≡ slice_set p.stations i b
    → slice_get new i ≡ Some b
self_is p i a b new at is = ap (λ l. slice_get l i) is ∙ get_set p.stations i b (slice_get_within p.stations i a at)

module _ (overtake i : ℕ) where
  -- where that station stood before the steps, and where it stands after them, there is a chain
  abbrev HasChain : List Step → (old new : Plant) → Type 0
  HasChain steps old new = (before : BoundNode) → slice_get old.stations i ≡ Some before
      → (after : BoundNode) × (slice_get new.stations i ≡ Some after) × Chain (turns_of i steps) before after

  abbrev StandsStill : (old new : Plant) → Type 0
  StandsStill old new = slice_get new.stations i ≡ slice_get old.stations i

  still : (turns : List Turn) (middle new : Plant) (before : BoundNode) → StandsStill middle new
      → (after : BoundNode) × (slice_get middle.stations i ≡ Some after) × Chain turns before after
      → (after : BoundNode) × (slice_get new.stations i ≡ Some after) × Chain turns before after
  still turns middle new before same c = (c.0, same ∙ c.1, c.2)

  took : (j : ℕ) (source : Source) (turn : Turn) (steps : List Step) (middle new : Plant) → TakesTurnAt overtake middle j source turn new → (before : BoundNode)
      → (after : BoundNode) × (slice_get middle.stations i ≡ Some after) × Chain (turns_of i steps) before after → (own : Bool) → nat_eq j i ≡ own
      → (after : BoundNode) × (slice_get new.stations i ≡ Some after) × Chain (if own then turn ∷ turns_of i steps else turns_of i steps) before after
  took j source turn steps middle new t before c true is =
      let same : j ≡ i = grind (arith, nat_tests) in
      let mine : slice_get middle.stations i ≡ Some t.before = subst (λ k. slice_get middle.stations k ≡ Some t.before) same t.at in
      let one : t.before ≡ c.0 = one_there (slice_get middle.stations i) t.before c.0 mine c.1 in (
        t.after,
        self_is middle i t.before t.after new.stations mine
            (ap (λ (p : Plant). p.stations) t.happens.is ∙ ap (λ k. slice_set middle.stations k t.after) same),
        record {
          middle = c.0;
          so_far = c.2;
          last = subst (λ b. TakesSomeTurn b turn t.after) one (record { now = shows middle j; is = t.takes });
        },
      )
  took j source turn steps middle new t before c false is =
      let other : j ≢ i = λ e. absurd (grind (arith, nat_tests)) in
      still (turns_of i steps) middle new before (other_stays middle i j t.after new.stations (ap (λ (p : Plant). p.stations) t.happens.is) other) c

  chain_of : (steps : List Step) (old new : Plant) → PlantRun overtake steps old new → TakesTurnsAlone i steps → HasChain steps old new
  chain_of [] old new run alone before at = (before, ap (λ (p : Plant). slice_get p.stations i) run ∙ at, refl)
  chain_of (Passes by own ∷ steps) old new run alone before at =
      still (turns_of i steps) run.middle new before (ap (λ (p : Plant). slice_get p.stations i) run.last)
      (chain_of steps old run.middle run.so_far alone before at)
  chain_of (Takes j source turn ∷ steps) old new run alone before at =
      took j source turn steps run.middle new run.last before (chain_of steps old run.middle run.so_far alone before at) (nat_eq j i) refl
  chain_of (FailsToReceive j ∷ steps) old new run alone before at =
      still (turns_of i steps) run.middle new before
      (other_stays run.middle i j run.last.after new.stations (ap (λ (p : Plant). p.stations) run.last.is) alone.0)
      (chain_of steps old run.middle run.so_far alone.1 before at)
  chain_of (Begins j server limits r ∷ steps) old new run alone before at =
      still (turns_of i steps) run.middle new before
      (other_stays run.middle i j run.last.after new.stations (ap (λ (p : Plant). p.stations) run.last.is) alone.0)
      (chain_of steps old run.middle run.so_far alone.1 before at)
  chain_of (BeginsAway j peer limits r ∷ steps) old new run alone before at =
      still (turns_of i steps) run.middle new before
      (other_stays run.middle i j run.last.after new.stations (ap (λ (p : Plant). p.stations) run.last.is) alone.0)
      (chain_of steps old run.middle run.so_far alone.1 before at)
  chain_of (Changes j change ∷ steps) old new run alone before at =
      still (turns_of i steps) run.middle new before
      (other_stays run.middle i j _ new.stations (ap (λ (p : Plant). p.stations) run.last.is) alone.0)
      (chain_of steps old run.middle run.so_far alone.1 before at)
  chain_of (Restarts j exact store ∷ steps) old new run alone before at =
      still (turns_of i steps) run.middle new before
      (other_stays run.middle i j run.last.after new.stations (ap (λ (p : Plant). p.stations) run.last.is) alone.0)
      (chain_of steps old run.middle run.so_far alone.1 before at)
  chain_of (Starts j exact ∷ steps) old new run alone before at =
      still (turns_of i steps) run.middle new before
      (other_stays run.middle i j run.last.after new.stations (ap (λ (p : Plant). p.stations) run.last.is) alone.0)
      (chain_of steps old run.middle run.so_far alone.1 before at)
  chain_of (StartsAgain j exact first_id store ∷ steps) old new run alone before at =
      still (turns_of i steps) run.middle new before
      (other_stays run.middle i j run.last.after new.stations (ap (λ (p : Plant). p.stations) run.last.is) alone.0)
      (chain_of steps old run.middle run.so_far alone.1 before at)
  chain_of (Holds j source turn ∷ steps) old new run alone before at =
      still (turns_of i steps) run.middle new before
      (other_stays run.middle i j run.last.after new.stations (ap (λ (p : Plant). p.stations) run.last.happens.is) alone.0)
      (chain_of steps old run.middle run.so_far alone.1 before at)
  chain_of (SendsHeld j turns ∷ steps) old new run alone before at =
      still (turns_of i steps) run.middle new before
      (other_stays run.middle i j run.last.after new.stations (ap (λ (p : Plant). p.stations) run.last.is) alone.0)
      (chain_of steps old run.middle run.so_far alone.1 before at)

pub steps_chain : (overtake station : ℕ) (steps : List Step) (old new : Plant) → PlantRun overtake steps old new → TakesTurnsAlone station steps
    → (before after : BoundNode) → slice_get old.stations station ≡ Some before → slice_get new.stations station ≡ Some after
    → Chain (turns_of station steps) before after
steps_chain overtake station steps old new run alone before after at there =
    let c = chain_of overtake station steps old new run alone before at in
    let same : c.0 ≡ after = one_there (slice_get new.stations station) c.0 after c.1 there in
    subst (λ b. Chain (turns_of station steps) before b) same c.2
