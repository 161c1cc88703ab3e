-- Endings of one ask, in a log that grows.
use Rattle.std.specs.Prelude.{◌≡◌, ◌≢◌, ◌⊎◌, ℕ, zero, suc, ◌≤◌, List, ◌++◌, length, Option, Some, None}
use Rattle.bac_transaction.specs.Meanings.{Ending}
use Rattle.bac_world.specs.Once.{Fact}
use Rattle.bac_world.specs.ReusingLogs.{Reuses}
use Rattle.bac_world.specs.ReusingWorlds.{WorldStepSo}
use Rattle.bac_world.specs.World.{World, Event, WorldStep}
use Rattle.bac_world.specs.World.Event.{Deliver}
use Rattle.bac_liveness.specs.StraightRuns.{ending_in}

-- the log had so many facts before the ask, and no ending of it
pub record IsSince (since ask : ℕ) (log : List Fact) : Type 0 where
  pub newer : List Fact
  pub older : List Fact
  pub is : log ≡ newer ++ older
  pub many : length older ≡ since
  pub none : ending_in ask older ≡ None

-- how the ask of that number has ended by then, if there was one and it has
abbrev pub ending_by : Option ℕ → List Fact → Option Ending
ending_by None log = None
ending_by (Some ask) log = ending_in ask log

-- so many copies are delivered by such steps, from that number on, each while the log has no ending of the ask
abbrev pub DeliverUnendedBy : (World → Event → World → Type 0) → (ask count number : ℕ) → (old new : World) → Type 0
DeliverUnendedBy steps ask zero number old new = new ≡ old
DeliverUnendedBy steps ask (suc count) number old new =
    (ending_in ask old.log ≡ None) × (u : World) × steps old (Deliver number) u × DeliverUnendedBy steps ask count (suc number) u new

-- in a world of strict nodes
abbrev pub DeliverUnended : (overtake ask count number : ℕ) → (old new : World) → Type 0
DeliverUnended overtake ask count number old new = DeliverUnendedBy (WorldStep overtake) ask count number old new

-- where these nodes let invoke IDs be used again
abbrev pub DeliverUnendedSo : (overtake : ℕ) → Reuses → (ask count number : ℕ) → (old new : World) → Type 0
DeliverUnendedSo overtake u ask count number old new = DeliverUnendedBy (WorldStepSo overtake u) ask count number old new

-- the ask has ended, or no copy is left from that number on
abbrev pub Stops : (ask number : ℕ) → World → Type 0
Stops ask number w = (ending_in ask w.log ≢ None) ⊎ (length w.copies ≤ number)
