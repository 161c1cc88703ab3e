-- A world in which the power of nodes is cut at any moment, and each starts again with the store that its file gives.
use Rattle.std.specs.Prelude.{◌≡◌, ◌⊎◌, ℕ, List, [], ◌∷◌, Some, None, slice_get}
use Rattle.bac_protocol.specs.Pace.{clock_at}
use Rattle.bac_store.specs.Stores.{Store}
use Rattle.bac_world.specs.Node.{Node, restarted}
use Rattle.bac_world.specs.Once.Fact.{Restarted}
use Rattle.bac_world.specs.ReusingLogs.{Reuses}
use Rattle.bac_world.specs.ReusingWorlds.{WorldRunSo, WorldStepSo}
use Rattle.bac_world.specs.World.{World, Event, WorldStep, WorldRun, IsWithNode, stores_of, with_clock, with_restart}

-- an event as it was; a cut while the node does nothing; a cut in the midst of what the node does at an event. The clock of the node begins anew, at that real
-- time.
pub data CutEvent : Type 0 where
  Goes : (event : Event) → CutEvent
  Cut : (node exact : ℕ) → CutEvent
  CutIn : (node exact : ℕ) (event : Event) → CutEvent

-- the node starts with that store: both its tables are lost, and both its ends wait
pub record Starts (old : World) (i exact : ℕ) (s : Store) (new : World) : Type 0 where
  pub before : Node
  pub at : slice_get old.nodes i ≡ Some before
  pub nodes : IsWithNode old.nodes i (restarted (clock_at old.time.pace exact).shows s before) new.nodes
  pub time : new.time ≡ with_clock old.time i exact
  pub lives : new.lives ≡ with_restart old.time old.lives i
  pub copies : new.copies ≡ old.copies
  pub notes : new.notes ≡ old.notes
  pub log : new.log ≡ Restarted i None ∷ old.log

-- it starts with the store that it had, since its file gives that
pub record StartsAgain (old : World) (i exact : ℕ) (new : World) : Type 0 where
  pub store : Store
  pub found : stores_of old.nodes i ≡ Some store
  pub starts : Starts old i exact store new

-- The same of whatever steps a world takes at events.

-- in the midst of an event the file gives the store before it, where nothing has left yet, or the one after it
abbrev pub CutStepBy : (Step : World → Event → World → Type 0) → World → CutEvent → World → Type 0
CutStepBy Step old (Goes event) new = Step old event new
CutStepBy Step old (Cut i exact) new = StartsAgain old i exact new
CutStepBy Step old (CutIn i exact event) new = StartsAgain old i exact new ⊎ ((u : World) × Step old event u × StartsAgain u i exact new)

abbrev pub CutRunBy : (Step : World → Event → World → Type 0) → World → List CutEvent → World → Type 0
CutRunBy Step old [] new = new ≡ old
CutRunBy Step old (e ∷ es) new = (u : World) × CutStepBy Step old e u × CutRunBy Step u es new

-- Worlds in which no node lets clients use an invoke ID again.

abbrev pub CutRun : (overtake : ℕ) → World → List CutEvent → World → Type 0
CutRun overtake old events new = CutRunBy (WorldStep overtake) old events new

-- there are events that lead from the one to the other; a cut is a restart with the store kept
pub record IsRunOfRestarts (overtake : ℕ) (old new : World) : Type 0 where
  pub events : List Event
  pub run : WorldRun overtake old events new

-- Worlds in which some nodes do.

abbrev pub CutRunSo : (overtake : ℕ) → Reuses → World → List CutEvent → World → Type 0
CutRunSo overtake u old events new = CutRunBy (WorldStepSo overtake u) old events new

pub record IsRunOfRestartsSo (overtake : ℕ) (u : Reuses) (old new : World) : Type 0 where
  pub events : List Event
  pub run : WorldRunSo overtake u old events new
