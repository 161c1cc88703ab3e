-- Turns of a bound node, as an observer sees them.
use Rattle.std.specs.Prelude.{◌≡◌, ◌⊎◌, ℕ, List, map, length}
use Rattle.bac_protocol.specs.Service.{Octets}
use Rattle.bac_world.specs.Node.{Node}
use Rattle.bac_driver.specs.Runs.{Run, Timed}
use Rattle.bac_driver.specs.Serving.{IsOver, StopsAfter, TakesEarlyTurn, count_of, performed_in}
use Rattle.bac_driver.specs.Turns.{Turn, performed_of}
use Rattle.bac_driver.specs.declared.wait_limit.WaitLimit.{WaitLimit}

-- the node after a turn, the buffer, and what the turn returned
pub record Seen : Type 0 where
  pub node : Node
  pub buffer : Octets
  pub turn : Turn

abbrev pub seen : Node → Octets → Turn → Seen
seen node buffer turn = record { node = node; buffer = buffer; turn = turn }

abbrev pub turn_of : Seen → Turn
turn_of s = s.turn

-- what an observer does with a turn
abbrev pub Watcher : Type 0 → Type 1
Watcher S = Seen → (old new : S) → Type 0

-- a turn that began in time, and what was seen of it
pub record TakesSeenTurn (p : WaitLimit) (old : Timed) (s : Seen) (new : Timed) : Type 0 where
  pub takes : TakesEarlyTurn p old s.turn new
  pub is : s ≡ seen new.bound_node.node new.bound_node.buffer s.turn

-- the observer saw it
abbrev pub goes_on : {S : Type 0} → Watcher S → S → Seen → S → Type 0
goes_on Sees old s new = Sees s old new

-- so many such turns were taken, in which so many requests were performed; each was seen, in order
pub record WatchesTurns {S : Type 0} (Sees : Watcher S) (p : WaitLimit) (from to : S) (turns effects : ℕ) (old new : Timed) : Type 0 where
  pub taken : List Seen
  pub all : length taken ≡ turns
  pub run : Run (TakesSeenTurn p) taken old new
  pub told : Run (goes_on Sees) taken from to
  pub counted : effects ≡ performed_in (map turn_of taken)

-- all turns were taken, or the time was over before
abbrev pub Watches : {S : Type 0} → Watcher S → WaitLimit → (from to : S) → (turns effects : ℕ) → (old new : Timed) → Type 0
Watches Sees p from to turns effects old new =
    WatchesTurns Sees p from to turns effects old new
    ⊎ StopsAfter (λ (taken : ℕ). WatchesTurns Sees p from to taken effects) turns (IsOver p) old new

-- one such turn was taken and seen, in which so many requests were performed
pub record WatchesOnce {S : Type 0} (Sees : Watcher S) (p : WaitLimit) (from to : S) (effects : ℕ) (old new : Timed) : Type 0 where
  pub s : Seen
  pub takes : TakesSeenTurn p old s new
  pub told : Sees s from to
  pub counted : effects ≡ count_of (performed_of s.turn.heard)
