-- What laws say of runs of a plant with power cuts, and of the rounds in them.
use Rattle.std.specs.Prelude.{◌≡◌, ◌≤◌, ℕ, List, length, Some, slice_get}
use Rattle.bac_protocol.specs.Pace.{IsTimely}
use Rattle.bac_world.specs.Once.{IsOnceByRequests}
use Rattle.bac_world.specs.World.{IsBounded, IsFresh}
use Rattle.bac_driver.specs.BoundNodes.{BoundNode}
use Rattle.bac_driver.specs.Rounds.{ROUND, in_order}
use Rattle.bac_driver.specs.Serving.{performed_in}
use Rattle.bac_plant.specs.Cuts.{CutPlant, CutPlantRun, CutStep, GoesOn, HoldsAlone, KeepStores, LosesAlone, cut_events_of, held_of, real, steps_of}
use Rattle.bac_plant.specs.Plants.{HasNoReuse, Plant, settings_of, world_of}
use Rattle.bac_plant.specs.PowerCuts.{CutRun, CutRunSo}
use Rattle.bac_plant.specs.Rounds.{HeldChain, RoundInChain}
use Rattle.bac_plant.specs.Runs.{stores_in}
use Rattle.bac_plant.specs.Steps.{PlantRun}
use Rattle.bac_plant.specs.Steps.Step.{SendsHeld}

-- such a run is one of the plant, by its steps
abbrev pub CutRunsAreRuns : Type 0
CutRunsAreRuns =
    (overtake : ℕ) (steps : List CutStep) (old new : CutPlant) → CutPlantRun overtake steps old new → PlantRun overtake (steps_of steps) old.plant new.plant

-- in its world the power of nodes is cut
abbrev pub CutRunsAreEvents : Type 0
CutRunsAreEvents =
    (overtake : ℕ) (steps : List CutStep) (old new : CutPlant) → CutPlantRun overtake steps old new
    → CutRunSo overtake (settings_of old.plant) (world_of old.plant) (cut_events_of steps) (world_of new.plant)

-- the same where no station lets clients use an invoke ID again
abbrev pub CutRunsAreEventsWithoutReuse : Type 0
CutRunsAreEventsWithoutReuse =
    (overtake : ℕ) (steps : List CutStep) (old new : CutPlant) → HasNoReuse old.plant → CutPlantRun overtake steps old new
    → CutRun overtake (world_of old.plant) (cut_events_of steps) (world_of new.plant)

-- while a station takes a round that is lost, it stands in the plant as before
abbrev pub LostRoundsAreNothing : Type 0
LostRoundsAreNothing =
    (overtake station : ℕ) (steps : List CutStep) (old new : CutPlant) → CutPlantRun overtake steps old new → LosesAlone station steps
    → slice_get new.plant.stations station ≡ slice_get old.plant.stations station

-- that is so of each such run of a fresh plant
abbrev pub OfFreshCutRuns : (Says : (old new : Plant) → Type 0) → Type 0
OfFreshCutRuns Says =
    (W overtake : ℕ) (old new : CutPlant) → IsFresh (world_of old.plant) → IsTimely old.plant.time.pace → IsBounded W overtake (world_of old.plant)
    → (steps : List CutStep) → CutPlantRun overtake steps old new → Says old.plant new.plant

-- where no station lets invoke IDs be used again, changes its store, or restarts with another one, requests alone make the stores
abbrev pub RequestsMakeStores : Type 0
RequestsMakeStores =
    (W overtake : ℕ) (old new : CutPlant) → IsFresh (world_of old.plant) → IsTimely old.plant.time.pace → IsBounded W overtake (world_of old.plant)
    → (steps : List CutStep) → CutPlantRun overtake steps old new → HasNoReuse old.plant → KeepStores (steps_of steps)
    → IsOnceByRequests (stores_in old.plant) new.plant.log (stores_in new.plant)

-- the turns that a station holds, if it does nothing else, are a chain
abbrev pub HeldStepsAreChain : Type 0
HeldStepsAreChain =
    (overtake station : ℕ) (steps : List CutStep) (old new : CutPlant) → CutPlantRun overtake steps old new → HoldsAlone station steps
    → (before after : BoundNode) → real old station ≡ Some before → real new station ≡ Some after → HeldChain (held_of station steps) before after

-- with the sends of all that they hold, they are a round
abbrev pub HeldStepsAreRound : Type 0
HeldStepsAreRound =
    (overtake station : ℕ) (steps : List CutStep) (old middle new : CutPlant) → CutPlantRun overtake steps old middle → HoldsAlone station steps
    → length (held_of station steps) ≤ ROUND → GoesOn overtake middle (SendsHeld station (in_order (held_of station steps))) new
    → (before after : BoundNode) → real old station ≡ Some before → real new station ≡ Some after
    → RoundInChain before (performed_in (in_order (held_of station steps))) after
