-- A plant in which the power of stations is cut at any moment, also in the midst of a round, and each starts again with the store that its keeper finds.
use Rattle.std.specs.Prelude.{◌≡◌, ◌≢◌, ℕ, List, [], ◌∷◌, ◌++◌, map, Option, Some, None, slice_get, if◌then◌else◌, nat_eq, IfSome}
use Rattle.bac_plant.specs.PowerCuts.{CutEvent}
use Rattle.bac_driver.specs.BoundNodes.{BoundNode}
use Rattle.bac_driver.specs.Runs.{Run}
use Rattle.bac_driver.specs.Turns.{Turn}
use Rattle.bac_plant.specs.Events.{events_in}
use Rattle.bac_plant.specs.Network.{HandsOver, Source}
use Rattle.bac_plant.specs.Plants.{Plant, shows}
use Rattle.bac_plant.specs.Steps.{HoldsSomeTurn, PlantStep, RestartsAt, Step}
use Rattle.bac_plant.specs.Steps.Step.{Begins, BeginsAway, Changes, FailsToReceive, Holds, Passes, Restarts, SendsHeld, Starts, StartsAgain, Takes}

-- A round is lost where the power is cut before it has sent anything, and the next start finds the store before the round. While a station takes the turns of
-- such a round, it stands in the plant as it was before, and beside it what it has become: no one can learn of that. Any other round is one of the plant, and
-- so is one that was cut, and whose store the next start finds.
pub record CutPlant : Type 0 where
  pub plant : Plant
  pub losing : ℕ → Option BoundNode  -- what a station has become in a round that is lost; None for one that takes no such round

-- a step of the plant; a turn of a round that is lost; a cut, after which the station starts with the store that it has in the plant
pub data CutStep : Type 0 where
  Goes : (step : Step) → CutStep
  Loses : (station : ℕ) (source : Source) (turn : Turn) → CutStep
  Cuts : (station exact : ℕ) → CutStep

abbrev pub or_else : Option BoundNode → Option BoundNode → Option BoundNode
or_else (Some b) other = Some b
or_else None other = other

-- what a station is
abbrev pub real : CutPlant → (station : ℕ) → Option BoundNode
real c i = or_else (c.losing i) (slice_get c.plant.stations i)

abbrev pub with_losing : (ℕ → Option BoundNode) → (station : ℕ) → Option BoundNode → ℕ → Option BoundNode
with_losing losing i b j = if nat_eq j i then b else losing j

-- which station does it
abbrev pub station_of : Step → Option ℕ
station_of (Passes by own) = None
station_of (Takes i source turn) = Some i
station_of (FailsToReceive i) = Some i
station_of (Begins i server limits r) = Some i
station_of (BeginsAway i peer limits r) = Some i
station_of (Changes i change) = Some i
station_of (Restarts i exact store) = Some i
station_of (Starts i exact) = Some i
station_of (StartsAgain i exact first_id store) = Some i
station_of (Holds i source turn) = Some i
station_of (SendsHeld i turns) = Some i

-- a step of the plant, by a station that takes no round that is lost
pub record GoesOn (overtake : ℕ) (old : CutPlant) (step : Step) (new : CutPlant) : Type 0 where
  pub free : IfSome (station_of step) (λ i. old.losing i ≡ None)
  pub goes : PlantStep overtake old.plant step new.plant
  pub same : new.losing ≡ old.losing

-- a station takes a turn of a round that is lost, by what the network hands over: nothing of it enters the plant
pub record LosesTurnAt (overtake : ℕ) (old : CutPlant) (i : ℕ) (source : Source) (turn : Turn) (new : CutPlant) : Type 0 where
  pub before : BoundNode
  pub at : real old i ≡ Some before
  pub after : BoundNode
  pub holds : HoldsSomeTurn (shows old.plant i) before turn after
  pub comes : HandsOver overtake old.plant i source turn.received after.buffer
  pub is : new ≡ record { plant = old.plant; losing = with_losing old.losing i (Some after) }

-- the power of a station is cut: it restarts with the store that it has in the plant, which is that before the round where it takes one that is lost
pub record CutsAt (old : CutPlant) (i exact : ℕ) (new : CutPlant) : Type 0 where
  pub starts : RestartsAt old.plant i exact None new.plant
  pub losing : new.losing ≡ with_losing old.losing i None

abbrev pub CutPlantStep : (overtake : ℕ) → CutPlant → CutStep → CutPlant → Type 0
CutPlantStep overtake old (CutStep.Goes step) new = GoesOn overtake old step new
CutPlantStep overtake old (CutStep.Loses i source turn) new = LosesTurnAt overtake old i source turn new
CutPlantStep overtake old (CutStep.Cuts i exact) new = CutsAt old i exact new

-- the newest step comes first
abbrev pub CutPlantRun : (overtake : ℕ) → List CutStep → (old new : CutPlant) → Type 0
CutPlantRun overtake steps old new = Run (CutPlantStep overtake) steps old new

-- the steps of the plant in such a run: a cut is a restart with the store kept, and the turns of a round that is lost are none
abbrev pub steps_of : List CutStep → List Step
steps_of [] = []
steps_of (CutStep.Goes step ∷ before) = step ∷ steps_of before
steps_of (CutStep.Loses i source turn ∷ before) = steps_of before
steps_of (CutStep.Cuts i exact ∷ before) = Restarts i exact None ∷ steps_of before

-- the events of such a run in its world, oldest first: those of the steps of the plant, and the cuts
abbrev pub cut_events_of : List CutStep → List CutEvent
cut_events_of [] = []
cut_events_of (CutStep.Goes step ∷ before) = cut_events_of before ++ map CutEvent.Goes (events_in step)
cut_events_of (CutStep.Loses i source turn ∷ before) = cut_events_of before
cut_events_of (CutStep.Cuts i exact ∷ before) = cut_events_of before ++ CutEvent.Cut i exact ∷ []

-- in these steps no station changes its own store, or starts again with another one than it has
abbrev pub KeepStores : List Step → Type 0
KeepStores [] = Unit {0}
KeepStores (Changes i change ∷ before) = ⊥
KeepStores (Restarts i exact store ∷ before) = (store ≡ None) × KeepStores before
KeepStores (StartsAgain i exact first_id store ∷ before) = (store ≡ None) × KeepStores before
KeepStores (step ∷ before) = KeepStores before

-- ---- the turns that one station holds, whatever others do between them

-- the turn that the station holds in a step of the plant, if it is one
abbrev pub held_in : (station : ℕ) → Step → List Turn
held_in i (Holds j source turn) = if nat_eq i j then turn ∷ [] else []
held_in i step = []

-- the turns that it holds in these steps, in rounds that are lost or not; the newest comes first
abbrev pub held_of : (station : ℕ) → List CutStep → List Turn
held_of i [] = []
held_of i (CutStep.Goes step ∷ before) = held_in i step ++ held_of i before
held_of i (CutStep.Loses j source turn ∷ before) = if nat_eq i j then turn ∷ held_of i before else held_of i before
held_of i (CutStep.Cuts j exact ∷ before) = held_of i before

-- a step of another station, or one in which that station holds a turn
abbrev pub MayHold : (station : ℕ) → Step → Type 0
MayHold i (Holds j source turn) = Unit {0}
MayHold i step = station_of step ≢ Some i

-- in these steps the station holds turns and does nothing else
abbrev pub HoldsAlone : (station : ℕ) → List CutStep → Type 0
HoldsAlone i [] = Unit {0}
HoldsAlone i (CutStep.Goes step ∷ before) = MayHold i step × HoldsAlone i before
HoldsAlone i (CutStep.Loses j source turn ∷ before) = HoldsAlone i before
HoldsAlone i (CutStep.Cuts j exact ∷ before) = (j ≢ i) × HoldsAlone i before

-- in these steps it takes turns of a round that is lost and does nothing else
abbrev pub LosesAlone : (station : ℕ) → List CutStep → Type 0
LosesAlone i [] = Unit {0}
LosesAlone i (CutStep.Goes step ∷ before) = (station_of step ≢ Some i) × LosesAlone i before
LosesAlone i (CutStep.Loses j source turn ∷ before) = LosesAlone i before
LosesAlone i (CutStep.Cuts j exact ∷ before) = (j ≢ i) × LosesAlone i before
