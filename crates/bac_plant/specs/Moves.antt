-- What stations do one after another in a plant where some may start again with other settings.
use Rattle.std.specs.Prelude.{◌≡◌, ℕ, Bool, List, [], ◌∷◌}
use Rattle.bac_protocol.specs.Pace.{IsTimely}
use Rattle.bac_transaction.specs.Views.{rules_view}
use Rattle.bac_node.specs.Serving.{is_reusing}
use Rattle.bac_world.specs.ReusingLogs.{Reuses}
use Rattle.bac_world.specs.Stretches.{AreOf, with_settings}
use Rattle.bac_world.specs.World.{IsBounded, IsFresh}
use Rattle.bac_driver.specs.BoundNodes.{BoundNode}
use Rattle.bac_plant.specs.Anew.{Anew, ArePermitted, HappensAnew, IsPermitted, PlantRunIn, Stretch}
use Rattle.bac_plant.specs.Anew.Anew.{RestartsSo, StartsAgainSo}
use Rattle.bac_plant.specs.Composed.{IsAsCalled, IsCalled, IsLeft, IsStarted, StandsAt, again, back}
use Rattle.bac_plant.specs.Plants.{Plant, settings_of, world_of}
use Rattle.bac_plant.specs.Steps.{PlantRun, PlantStep, Step}

-- a run of the first plant, and then stretches led there: their windows are at most W, and those stations ever let invoke IDs be used again
pub record IsLed (W overtake : ℕ) (ever : Reuses) (first p : Plant) : Type 0 where
  pub among : AreOf (settings_of first) ever
  pub steps : List Step
  pub middle : Plant
  pub run : PlantRun overtake steps first middle
  pub stretches : List Stretch
  pub permitted : ArePermitted W ever stretches
  pub later : PlantRunIn overtake middle stretches p

-- and the first plant was fresh
pub record IsReachedIn (W overtake : ℕ) (ever : Reuses) (first p : Plant) : Type 0 where
  pub fresh : IsFresh (world_of first)
  pub timely : IsTimely first.time.pace
  pub bounded : IsBounded W overtake (world_of first)
  pub led : IsLed W overtake ever first p

-- it is so of each plant that such stretches led to
abbrev pub AfterStretches : (GoOn : (overtake : ℕ) → Plant → Type 0) → Type 0
AfterStretches GoOn = (W overtake : ℕ) (ever : Reuses) (first p : Plant) → IsReachedIn W overtake ever first p → GoOn overtake p

-- a step, or a start with other settings
pub data Move : Type 0 where
  Goes : (step : Step) → Move
  StartsAnew : (anew : Anew) → Move

-- the plant goes on so
abbrev pub Moves : (overtake : ℕ) → (old : Plant) → Move → (new : Plant) → Type 0
Moves overtake old (Goes step) new = PlantStep overtake old step new
Moves overtake old (StartsAnew anew) new = HappensAnew old anew new

-- the plant after these moves, in their order
abbrev pub MoveRun : (overtake : ℕ) → Plant → List Move → Plant → Type 0
MoveRun overtake old [] new = new ≡ old
MoveRun overtake old (move ∷ later) new = (next : Plant) × Moves overtake old move next × MoveRun overtake next later new

-- each start with other settings is permitted
abbrev pub MayStart : (W : ℕ) → (ever : Reuses) → List Move → Type 0
MayStart W ever [] = Unit {0}
MayStart W ever (Goes step ∷ later) = MayStart W ever later
MayStart W ever (StartsAnew anew ∷ later) = IsPermitted W ever anew × MayStart W ever later

-- the first plant's run leads on through such moves
abbrev pub MovesGoOn : Type 0
MovesGoOn =
    (W overtake : ℕ) (ever : Reuses) (first p : Plant) → IsReachedIn W overtake ever first p → (moves : List Move) → MayStart W ever moves → (new : Plant)
    → MoveRun overtake p moves new → IsReachedIn W overtake ever first new

-- ---- calls

-- a station that starts with other settings lets clients use an invoke ID again, or not
abbrev pub AreRulesOf : (reuses : Bool) → (before after : BoundNode) → Type 0
AreRulesOf reuses before after = is_reusing (rules_view after.rules) ≡ reuses

-- the call that a move stands for was made in that plant. A station that is there may restart, and another program may start once all is over that its client
-- sent.
abbrev pub IsCalledIn : (overtake : ℕ) → Plant → Move → Type 0
IsCalledIn overtake p (Goes step) = IsCalled overtake p step
IsCalledIn overtake p (StartsAnew (RestartsSo i exact store settings reuses)) =
    IsStarted p i (λ n. back p exact store (with_settings settings n)) (AreRulesOf reuses)
IsCalledIn overtake p (StartsAnew (StartsAgainSo i exact first_id store settings reuses)) =
    IsLeft p i (λ n. again p exact first_id store (with_settings settings n)) (AreRulesOf reuses)

-- in the next plant its station is as the call left it
abbrev pub IsAsCalledIn : (overtake : ℕ) (p : Plant) (move : Move) → IsCalledIn overtake p move → (next : Plant) → Type 0
IsAsCalledIn overtake p (Goes step) call next = IsAsCalled overtake p step call next
IsAsCalledIn overtake p (StartsAnew (RestartsSo i exact store settings reuses)) call next = StandsAt next i call.after
IsAsCalledIn overtake p (StartsAnew (StartsAgainSo i exact first_id store settings reuses)) call next = StandsAt next i call.started.after

-- These calls were made one after the other. Each was made in whatever plant the ones before it led to, whose stations are as these left them.
abbrev pub AreCalledIn : (overtake : ℕ) → List Move → Plant → Type 0
AreCalledIn overtake [] p = Unit {0}
AreCalledIn overtake (move ∷ later) p =
    (call : IsCalledIn overtake p move) × ((next : Plant) → Moves overtake p move next → IsAsCalledIn overtake p move call next → AreCalledIn overtake later next)

-- a plant to which these moves lead from p, and to which the first plant's run leads so
pub record IsComposedIn (W overtake : ℕ) (ever : Reuses) (first p : Plant) (moves : List Move) : Type 0 where
  pub last : Plant
  pub run : MoveRun overtake p moves last
  pub reached : IsReachedIn W overtake ever first last

-- such calls are moves, one after the other
abbrev pub CallsComposeIn : Type 0
CallsComposeIn =
    (W overtake : ℕ) (ever : Reuses) (first p : Plant) → IsReachedIn W overtake ever first p → (moves : List Move) → MayStart W ever moves
    → AreCalledIn overtake moves p → IsComposedIn W overtake ever first p moves
