-- A network in code as a world of bac_world.
use Rattle.std.specs.Prelude.{◌≡◌, ◌+◌, ◌≤◌, ℕ, List, Some, length, slice_get, vec_capacity}
use Rattle.bac_protocol.specs.Service.{Octets}
use Rattle.bac_world.specs.Node.{Node}
use Rattle.bac_world.specs.Once.{Fact}
use Rattle.bac_world.specs.ReusingLogs.{Reuses}
use Rattle.bac_world.specs.World.{World}
use Rattle.bac_network.specs.Clocks.{instant, time_at, told_at}
use Rattle.bac_journal.specs.Clocks.{restart_at, restarted_own}
use Rattle.bac_journal.specs.Entering.{CanGoOnSo}
use Rattle.bac_journal.specs.Journals.{JournalView}
use Rattle.bac_journal.specs.Lives.{lives_at}
use Rattle.bac_journal.specs.Views.{AreLinks}
use Rattle.bac_network.specs.Views.{log_view}
use Rattle.bac_network.specs.declared.network.Network.{Network}

-- nodes, what a journal keeps beside them, and a log
abbrev pub world_with : List Node → JournalView → List Fact → World
world_with nodes j log = record { nodes = nodes; time = time_at (instant j); lives = lives_at j.lives; copies = j.copies; log = log; notes = j.notes }

abbrev pub world_of : Network → World
world_of n = world_with n.nodes.items n.journal (log_view n.log.items)

-- what one of its nodes is told
abbrev pub told_in : Network → (node : ℕ) → ℕ
told_in n node = told_at (instant n.journal) node

-- where these nodes let invoke IDs be used again, what comes of a node's call can enter it; the journal has the nodes' links, and no two nodes have one
pub record IsReadySo (u : Reuses) (window overtake : ℕ) (n : Network) : Type 0 where
  pub can : CanGoOnSo u window overtake (world_of n)
  pub linked : AreLinks n.nodes.items n.journal.links
  pub apart : (i j : ℕ) (l : Octets) → slice_get n.journal.links i ≡ Some l → slice_get n.journal.links j ≡ Some l → i ≡ j

-- the same, whichever nodes do
pub record IsReady (window overtake : ℕ) (n : Network) : Type 0 where
  pub reuses : Reuses
  pub can : CanGoOnSo reuses window overtake (world_of n)
  pub linked : AreLinks n.nodes.items n.journal.links
  pub apart : (i j : ℕ) (l : Octets) → slice_get n.journal.links i ≡ Some l → slice_get n.journal.links j ≡ Some l → i ≡ j

-- for some windows and limits of overtaking
abbrev pub CanGoOn : Network → Type 0
CanGoOn n = (window : ℕ) × (overtake : ℕ) × IsReady window overtake n

-- What a call leaves as it was: the world.
abbrev pub SameWorld : (old new : Network) → Type 0
SameWorld old new = world_of new ≡ world_of old

-- the nodes' links
abbrev pub SameLinks : (old new : Network) → Type 0
SameLinks old new = new.journal.links ≡ old.journal.links

-- the moment, and the nodes' own clocks
abbrev pub SameTime : (old new : Network) → Type 0
SameTime old new = instant new.journal ≡ instant old.journal

-- what each node did so far
abbrev pub SameLives : (old new : Network) → Type 0
SameLives old new = new.journal.lives ≡ old.journal.lives

-- where the clock of a node begins that starts now
abbrev pub restart_in : Network → ℕ
restart_in n = restart_at n.journal.moment n.journal.own

-- that node's clock began again, and no time passed
abbrev pub RestartsClock : (node : ℕ) → (old new : Network) → Type 0
RestartsClock node old new = instant new.journal ≡ record { moment = old.journal.moment; own = restarted_own node old.journal.own }

-- both are one, but for their room
pub record AreAlike (old new : Network) : Type 0 where
  pub nodes : new.nodes ≡ old.nodes
  pub links : new.journal.links ≡ old.journal.links
  pub moment : new.journal.moment ≡ old.journal.moment
  pub own : new.journal.own ≡ old.journal.own
  pub lives : new.journal.lives ≡ old.journal.lives
  pub copies : new.journal.copies ≡ old.journal.copies
  pub notes : new.journal.notes ≡ old.journal.notes
  pub log : new.log.items ≡ old.log.items

-- there is room for so many facts and copies
pub record HasRoom (facts copies : ℕ) (n : Network) : Type 0 where
  pub log : length n.log.items + facts ≤ vec_capacity n.log
  pub journal : copies ≤ n.journal.room
