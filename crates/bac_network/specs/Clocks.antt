-- Moments, and what nodes are told then.
use Rattle.std.specs.Prelude.{ℕ, ◌+◌, ◌<◌, ◌≤◌, ◌⊎◌, Option}
use Rattle.bac_world.specs.World.{Time}
use Rattle.bac_journal.specs.Clocks.{OwnClocks, clock_of, time_of}
use Rattle.bac_journal.specs.Journals.{JournalView}

-- a moment of real time, in parts of a millisecond, and the nodes' own clocks then, if they have some
pub record Instant : Type 0 where
  pub moment : ℕ
  pub own : Option OwnClocks

abbrev pub instant : JournalView → Instant
instant j = record { moment = j.moment; own = j.own }

abbrev pub time_at : Instant → Time
time_at t = time_of t.moment t.own

-- what a node is told
abbrev pub told_at : Instant → (node : ℕ) → ℕ
told_at t node = (clock_of t.moment t.own node).shows

-- a clock that goes on by so many parts in a million is fast or slow by no more than the drift
abbrev pub IsWithinDrift : (drift rate : ℕ) → Type 0
IsWithinDrift drift rate = (1000000 ≤ rate + drift) × (rate ≤ 1000000 + drift)

-- by more
abbrev pub IsBeyondDrift : (drift rate : ℕ) → Type 0
IsBeyondDrift drift rate = (rate + drift < 1000000) ⊎ (1000000 + drift < rate)
