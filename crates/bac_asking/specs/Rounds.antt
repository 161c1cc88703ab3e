-- What a node does beside a clock, and does again in rounds.
use Rattle.std.specs.Prelude.{◌≡◌, ℕ, zero, suc, ◌+◌, min, nat_lt, if◌then◌else◌, Bool, true, ◌&&◌, List, Option, Some, None}
use Rattle.bac_driver.specs.Moments.{with_moment}
use Rattle.bac_driver.specs.Runs.{Timed, timed}
use Rattle.bac_driver.specs.Serving.{Serves}
use Rattle.bac_driver.specs.Waits.{MOST}
use Rattle.bac_environment.specs.Limits.{turns_of}
use Rattle.bac_asking.specs.declared.asking.Rounds.{Rounds}

-- what was done by a node beside a clock and printed, and whether all succeeded
abbrev pub Doing : Type 1
Doing = (all : Bool) → (before after : Timed) → (old new : Option (List ℕ)) → Type 0

-- one, and then the others
pub record IsNext (First Others : Doing) (all : Bool) (before after : Timed) (old new : Option (List ℕ)) : Type 0 where
  pub succeeded : Bool
  pub rest : Bool
  pub middle : Timed
  pub between : Option (List ℕ)
  pub first : First succeeded before middle old between
  pub others : Others rest middle after between new
  pub is : all ≡ succeeded && rest

-- nothing
abbrev pub DoesNothing : Doing
DoesNothing all before after old new = (all ≡ true) × ((after ≡ before) × (new ≡ old))

-- the node heard what came, and did what was due, until that moment: no turn began then or later
pub record Rests (moment : ℕ) (before after : Timed) : Type 0 where
  pub effects : ℕ
  pub serves : Serves (record { wait = MOST; until = Some moment }) MOST effects before after

-- it rested until that moment; then, at a moment that the clock printed, the round began
pub record BeginsRound (Round : Doing) (from began : ℕ) (all : Bool) (before after : Timed) (old new : Option (List ℕ)) : Type 0 where
  pub rested : Timed
  pub rests : Rests from before rested
  pub does : Round all (timed rested.bound_node (with_moment rested.told began)) after old new

-- after a round that might begin from one moment on and began at another, the next may begin so many milliseconds after the former; where that had come when
-- the round began, after the latter
abbrev pub next_from : (every from began : ℕ) → ℕ
next_from every from began = if nat_lt began (min (from + every) MOST) then min (from + every) MOST else min (began + every) MOST

-- a round that may begin from that moment on, and then the others, by the moment at which it began
pub record IsRound (Round : Doing) (Others : (from : ℕ) → Doing) (every from : ℕ) (all : Bool) (before after : Timed) (old new : Option (List ℕ)) : Type 0 where
  pub began : ℕ
  pub succeeded : Bool
  pub rest : Bool
  pub middle : Timed
  pub between : Option (List ℕ)
  pub first : BeginsRound Round from began succeeded before middle old between
  pub others : Others (next_from every from began) rest middle after between new
  pub is : all ≡ succeeded && rest

-- so many rounds
abbrev pub AreRoundsFrom : (Round : Doing) → (every times from : ℕ) → Doing
AreRoundsFrom Round every zero from all before after old new = DoesNothing all before after old new
AreRoundsFrom Round every (suc times) from all before after old new =
    IsRound Round (AreRoundsFrom Round every times) every from all before after old new

-- the rounds that are wanted, the first from the clock's beginning on; once where none are
abbrev pub AreRounds : Option Rounds → (Round : Doing) → Doing
AreRounds None Round all before after old new = Round all before after old new
AreRounds (Some r) Round all before after old new = AreRoundsFrom Round r.every (turns_of r.times) 0 all before after old new
