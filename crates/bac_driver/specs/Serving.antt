-- A node serves: it takes so many turns, or as many as begin before a moment.
use Rattle.std.specs.Prelude.{◌≡◌, ◌⊎◌, ◌<◌, ◌≤◌, ◌+◌, ℕ, List, [], ◌∷◌, length, Option, Some, None, IfSome, MatchOption}
use Rattle.bac_driver.specs.Moments.{with_moment}
use Rattle.bac_world.specs.Services.{Performed}
use Rattle.bac_driver.specs.Runs.{CannotReceive, GoesBack, Run, TakesTurnFrom, Timed, timed}
use Rattle.bac_driver.specs.Turns.{Turn, performed_of}
use Rattle.bac_driver.specs.declared.fault.TurnFault.{TurnFault}
use Rattle.bac_driver.specs.declared.fault.TurnFault.TheVariants as fault
use Rattle.bac_driver.specs.declared.wait_limit.WaitLimit.{WaitLimit}

-- how many requests a turn performed: one or none
abbrev pub count_of : Option Performed → ℕ
count_of None = 0
count_of (Some performed) = 1

-- how many requests were performed in these turns
abbrev pub performed_in : List Turn → ℕ
performed_in [] = 0
performed_in (turn ∷ turns) = performed_in turns + count_of (performed_of turn.heard)

-- a moment is before another one, if there is one
abbrev pub IsBefore : (now : ℕ) → (end : Option ℕ) → Type 0
IsBefore now end = IfSome end (λ moment. now < moment)

-- a turn that began at a moment of the clock, in time
pub record TakesEarlyTurn (p : WaitLimit) (old : Timed) (turn : Turn) (new : Timed) : Type 0 where
  pub began : ℕ
  pub early : IsBefore began p.until
  pub takes : TakesTurnFrom began p (timed old.bound_node (with_moment old.told began)) turn new

-- the clock gave a moment that is too late, and no turn was taken
pub record IsOver (p : WaitLimit) (old new : Timed) : Type 0 where
  pub now : ℕ
  pub told : new.told ≡ with_moment old.told now
  pub late : MatchOption p.until ⊥ (λ moment. moment ≤ now)
  pub same : new.bound_node ≡ old.bound_node

-- so many such turns were taken, and so many requests performed
pub record TakesTurns (p : WaitLimit) (turns effects : ℕ) (old new : Timed) : Type 0 where
  pub taken : List Turn
  pub all : length taken ≡ turns
  pub run : Run (TakesEarlyTurn p) taken old new
  pub counted : effects ≡ performed_in taken

-- fewer turns were taken so, and then this happened
pub record StopsAfter (Takes : (turns : ℕ) → Timed → Timed → Type 0) (turns : ℕ) (happens : Timed → Timed → Type 0) (old new : Timed) : Type 0 where
  pub taken : ℕ
  pub fewer : taken < turns
  pub middle : Timed
  pub takes : Takes taken old middle
  pub stopped : happens middle new

-- so many turns, in which so many requests were performed
abbrev pub TurnsWith : WaitLimit → (effects : ℕ) → (turns : ℕ) → Timed → Timed → Type 0
TurnsWith p effects turns old new = TakesTurns p turns effects old new

-- all turns were taken, or the time was over before
abbrev pub Serves : WaitLimit → (turns effects : ℕ) → (old new : Timed) → Type 0
Serves p turns effects old new = TakesTurns p turns effects old new ⊎ StopsAfter (TurnsWith p effects) turns (IsOver p) old new

-- the same, whatever was performed
pub record StopsServing (p : WaitLimit) (turns : ℕ) (happens : Timed → Timed → Type 0) (old new : Timed) : Type 0 where
  pub effects : ℕ
  pub stops : StopsAfter (TurnsWith p effects) turns happens old new

-- why serving stopped
abbrev pub ServingFails : TurnFault → WaitLimit → (turns : ℕ) → (old new : Timed) → Type 0
ServingFails fault.Link p turns old new = StopsServing p turns CannotReceive old new
ServingFails fault.ClockBack p turns old new = StopsServing p turns GoesBack old new
