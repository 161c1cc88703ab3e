-- A plant: stations that take turns on one network, each with a clock of its own, and what has happened there.
use Rattle.std.specs.Prelude.{◌≡◌, ℕ, Bool, false, List, map, Option, Some, None, slice_get}
use Rattle.bac_world.specs.Node.{Node}
use Rattle.bac_world.specs.Once.{Fact}
use Rattle.bac_world.specs.ReusingLogs.{Reuses}
use Rattle.bac_world.specs.World.{Copy, Life, Note, Time, World}
use Rattle.bac_transaction.specs.Views.{rules_view}
use Rattle.bac_node.specs.Serving.{AreSetTo, RemembersLong, is_reusing}
use Rattle.bac_driver.specs.BoundNodes.{BoundNode}

-- a station is a bound node: a node, what its link was asked to do, and its buffer
pub record Plant : Type 0 where
  pub stations : List BoundNode  -- numbered from 0
  pub time : Time  -- real time, and the clock of each station
  pub lives : ℕ → Life  -- what each station did so far
  pub copies : List Copy  -- what stations gave their links to send to stations, or hold until a round is kept, oldest first, numbered from 0
  pub log : List Fact  -- what they asked, performed, ended and changed, newest first
  pub notes : List Note  -- the transaction of each ask, newest first

abbrev pub node_of : BoundNode → Node
node_of b = b.node

abbrev pub nodes_of : List BoundNode → List Node
nodes_of stations = map node_of stations

-- what a world knows of a plant: all but links, buffers and settings
abbrev pub world_of : Plant → World
world_of p = record { nodes = nodes_of p.stations; time = p.time; lives = p.lives; copies = p.copies; log = p.log; notes = p.notes }

-- what the clock of a station shows
abbrev pub shows : Plant → (station : ℕ) → ℕ
shows p i = (p.time.clocks i).shows

-- ---- settings

abbrev pub reuse_of : Option BoundNode → Bool
reuse_of None = false
reuse_of (Some b) = is_reusing (rules_view b.rules)

-- which stations let clients use an invoke ID again as soon as its transaction is over
abbrev pub settings_of : Plant → Reuses
settings_of p i = reuse_of (slice_get p.stations i)

-- a station does so or not, and remembers a request for 65,000 ms, as long as an entry is live, or longer; how much it keeps makes no difference. Turns of other
-- stations are no steps of a plant
abbrev pub IsSetTo : (reuse : Bool) → BoundNode → Type 0
IsSetTo reuse b = AreSetTo reuse (rules_view b.rules)

-- a station remembers a request that long
abbrev pub RemembersInFull : BoundNode → Type 0
RemembersInFull b = RemembersLong b.rules.remember

-- none does
abbrev pub HasNoReuse : Plant → Type 0
HasNoReuse p = (i : ℕ) → settings_of p i ≡ false
