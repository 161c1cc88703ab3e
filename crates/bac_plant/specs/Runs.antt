-- What laws say of runs of a plant.
use Rattle.std.specs.Prelude.{◌≡◌, ℕ, List, Some, slice_get}
use Rattle.bac_protocol.specs.Pace.{IsTimely}
use Rattle.bac_transaction.specs.Views.{rules_view}
use Rattle.bac_world.specs.Claims.{AreServedApart}
use Rattle.bac_world.specs.LongApdus.{RepliesFit, TakeLongApdus}
use Rattle.bac_world.specs.Once.{IsOnce, Stores}
use Rattle.bac_world.specs.ReusingLogs.{IsOnceSo}
use Rattle.bac_world.specs.ReusingWorlds.{WorldRunSo}
use Rattle.bac_world.specs.World.{IsBounded, IsFresh, stores_of}
use Rattle.bac_driver.specs.BoundNodes.{BoundNode}
use Rattle.bac_plant.specs.Events.{events_of}
use Rattle.bac_plant.specs.LongApdus.{AllAskLong}
use Rattle.bac_plant.specs.Plants.{HasNoReuse, Plant, nodes_of, settings_of, world_of}
use Rattle.bac_plant.specs.Steps.{PlantRun, Step}

-- the stores of all stations
abbrev pub stores_in : Plant → Stores
stores_in p = stores_of (nodes_of p.stations)

-- ---- what is said

-- a station lets clients use an invoke ID again, if it did before
abbrev pub KeepsSettings : (old new : Plant) → Type 0
KeepsSettings old new = (station : ℕ) → settings_of new station ≡ settings_of old station

-- a station has the rules that it had, but for how much memory they take
abbrev pub KeepsRules : (old new : Plant) → Type 0
KeepsRules old new =
    (station : ℕ) (before after : BoundNode) → slice_get old.stations station ≡ Some before → slice_get new.stations station ≡ Some after
    → rules_view after.rules ≡ rules_view before.rules

-- the world goes through the events of the steps
abbrev pub GoesThrough : (overtake : ℕ) → List Step → (old new : Plant) → Type 0
GoesThrough overtake steps old new = WorldRunSo overtake (settings_of old) (world_of old) (events_of steps) (world_of new)

-- the log is right with the stores
abbrev pub IsRight : (old new : Plant) → Type 0
IsRight old new = IsOnceSo (settings_of old) (stores_in old) new.log (stores_in new)

-- where no station lets invoke IDs be used again, it is so in the words of the headline
abbrev pub IsRightWithoutReuse : (old new : Plant) → Type 0
IsRightWithoutReuse old new = HasNoReuse old → IsOnce (stores_in old) new.log (stores_in new)

-- there strangers are served apart
abbrev pub IsApartWithoutReuse : (old new : Plant) → Type 0
IsApartWithoutReuse old new = HasNoReuse old → AreServedApart (world_of new)

-- ---- of which runs

-- of each run
abbrev pub OfRuns : (Says : (old new : Plant) → Type 0) → Type 0
OfRuns Says = (overtake : ℕ) (steps : List Step) (old new : Plant) → PlantRun overtake steps old new → Says old new

-- of each run and its steps
abbrev pub OfSteps : (Says : (overtake : ℕ) → List Step → (old new : Plant) → Type 0) → Type 0
OfSteps Says = (overtake : ℕ) (steps : List Step) (old new : Plant) → PlantRun overtake steps old new → Says overtake steps old new

-- of each run of a fresh plant
abbrev pub OfFreshRuns : (Says : (old new : Plant) → Type 0) → Type 0
OfFreshRuns Says =
    (W overtake : ℕ) (old new : Plant) → IsFresh (world_of old) → IsTimely old.time.pace → IsBounded W overtake (world_of old) → (steps : List Step)
    → PlantRun overtake steps old new → Says old new

-- of each run of a fresh plant whose stations all take APDUs of 480 octets or more, whatever overtakes what
abbrev pub OfLongRuns : (Says : (old new : Plant) → Type 0) → Type 0
OfLongRuns Says =
    (W overtake : ℕ) (old new : Plant) → IsFresh (world_of old) → IsTimely old.time.pace → TakeLongApdus W (world_of old) → (steps : List Step)
    → AllAskLong steps → PlantRun overtake steps old new → RepliesFit new.log → Says old new
