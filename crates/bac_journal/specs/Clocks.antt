-- The clocks of a network's nodes.
use Rattle.std.specs.Prelude.{◌≡◌, ℕ, ◌+◌, ◌-◌, ◌*◌, ◌^◌, ◌<◌, ◌≤◌, List, map, Option, None, Some, length, slice_get, slice_set}
use Rattle.bac_protocol.specs.Pace.{Pace, Clock, clock_at, one_clock}
use Rattle.bac_world.specs.World.{Time}
use Rattle.bac_journal.specs.declared.clocks.NodeClock.{NodeClock}
use Rattle.bac_journal.specs.declared.clocks.OwnClocks as clocks

-- a part is a millionth of a millisecond, and each clock shows its whole milliseconds; life is in milliseconds
abbrev pub own_pace : (drift life : ℕ) → Pace
own_pace drift life = record { grain = 1000000; tick = 1; drift = drift; life = 1000000 * life }

-- where each node has a clock of its own: how many milliseconds of real time have passed, the pace of the clocks, and what is kept of each
pub record OwnClocks : Type 0 where
  pub elapsed : ℕ
  pub drift : ℕ
  pub life : ℕ
  pub nodes : List NodeClock

abbrev pub own_view : clocks.OwnClocks → OwnClocks
own_view o = record { elapsed = o.elapsed; drift = o.pace.drift; life = o.pace.life; nodes = o.nodes.items }

abbrev pub view_of_own : Option clocks.OwnClocks → Option OwnClocks
view_of_own None = None
view_of_own (Some o) = Some (own_view o)

-- what a clock is by then, in parts; a node that there is not has one that shows real time
abbrev pub exact_of : (elapsed : ℕ) → Option NodeClock → ℕ
exact_of elapsed None = 1000000 * elapsed
exact_of elapsed (Some c) = c.exact + (elapsed - c.since) * c.rate

-- where nodes have no clocks of their own, all have one clock, which shows real time, in milliseconds
abbrev pub pace_of : Option OwnClocks → Pace
pace_of None = one_clock
pace_of (Some o) = own_pace o.drift o.life

abbrev pub clock_of : (moment : ℕ) → Option OwnClocks → (node : ℕ) → Clock
clock_of moment None node = record { exact = moment; shows = moment }
clock_of moment (Some o) node = clock_at (own_pace o.drift o.life) (exact_of o.elapsed (slice_get o.nodes node))

abbrev pub time_of : (moment : ℕ) → Option OwnClocks → Time
time_of moment own = record { pace = pace_of own; now = moment; clocks = clock_of moment own }

-- Time passes.

-- how many parts a millisecond has
abbrev pub parts_of : Option OwnClocks → ℕ
parts_of None = 1
parts_of (Some o) = 1000000

-- how far a clock goes on in a millisecond
abbrev pub rate_of : Option NodeClock → ℕ
rate_of None = 1000000
rate_of (Some c) = c.rate

-- and each node's in so many
abbrev pub steps_of : Option OwnClocks → (by node : ℕ) → ℕ
steps_of None by node = by
steps_of (Some o) by node = by * rate_of (slice_get o.nodes node)

abbrev pub later_by : (by : ℕ) → Option OwnClocks → Option OwnClocks
later_by by None = None
later_by by (Some o) = Some (record o { elapsed = o.elapsed + by })

-- One node's clock.

-- how far a clock may go apart from real time, in a million parts
abbrev pub drift_of : Option OwnClocks → ℕ
drift_of None = 0
drift_of (Some o) = o.drift

-- from now on that node's clock goes on so far in each millisecond
abbrev pub paced : (node rate : ℕ) → Option OwnClocks → Option OwnClocks
paced node rate None = None
paced node rate (Some o) =
    Some (record o {
      nodes = slice_set o.nodes node (record { exact = exact_of o.elapsed (slice_get o.nodes node); since = o.elapsed; rate = rate });
    })

-- a node that restarts begins with a clock at 0, and where all have one clock with that
abbrev pub restart_at : (moment : ℕ) → Option OwnClocks → ℕ
restart_at moment None = moment
restart_at moment (Some o) = 0

abbrev pub restarted_own : (node : ℕ) → Option OwnClocks → Option OwnClocks
restarted_own node None = None
restarted_own node (Some o) =
    Some (record o { nodes = slice_set o.nodes node (record { exact = 0; since = o.elapsed; rate = rate_of (slice_get o.nodes node) }) })

-- Clocks that begin.

abbrev pub starting : (start : ℕ) → NodeClock
starting start = record { exact = 1000000 * start; since = 0; rate = 1000000 }

abbrev pub fresh_clocks : (drift life : ℕ) → (starts : List ℕ) → OwnClocks
fresh_clocks drift life starts = record { elapsed = 0; drift = drift; life = life; nodes = map starting starts }

-- What holds of what is kept.

-- it is of the past; the clock began before 2 ^ 32 milliseconds, and is fast or slow by no more than the drift
pub record IsSane (elapsed drift : ℕ) (c : NodeClock) : Type 0 where
  pub since : c.since ≤ elapsed
  pub slow : 1000000 ≤ c.rate + drift
  pub fast : c.rate ≤ 1000000 + drift
  pub exact : c.exact ≤ 1000000 * 2 ^ 32 + 2000000 * c.since

abbrev pub AreSane : (elapsed drift : ℕ) → List NodeClock → Type 0
AreSane elapsed drift clocks = (node : ℕ) (c : NodeClock) → slice_get clocks node ≡ Some c → IsSane elapsed drift c

pub record AreGoing (moment nodes : ℕ) (o : OwnClocks) : Type 0 where
  pub elapsed : moment ≡ 1000000 * o.elapsed
  pub drift : o.drift < 1000000
  pub many : length o.nodes ≡ nodes
  pub sane : AreSane o.elapsed o.drift o.nodes

abbrev pub MayGo : (moment nodes : ℕ) → Option OwnClocks → Type 0
MayGo moment nodes None = Unit {0}
MayGo moment nodes (Some o) = AreGoing moment nodes o
