-- How long a station asks nothing before another program may begin there.
use Rattle.std.specs.Prelude.{◌≡◌, ℕ, ◌+◌, ◌≤◌, Bool, true, false, List, [], ◌∷◌, nat_eq}
use Rattle.bac_protocol.specs.Pace.{Pace, most}
use Rattle.bac_protocol.specs.declared.times.TheConstants.{DEADLINE, KEEP}
use Rattle.bac_world.specs.ReusingLogs.{Reuses}
use Rattle.bac_world.specs.World.{is_quiet}
use Rattle.bac_plant.specs.Moves.{IsReachedIn, Move, MoveRun}
use Rattle.bac_plant.specs.Moves.Move.{Goes, StartsAnew}
use Rattle.bac_plant.specs.Plants.{Plant, world_of}
use Rattle.bac_plant.specs.Steps.{Step}
use Rattle.bac_plant.specs.Steps.Step.{Begins}

-- in this step that station asks another one
abbrev pub asks : (station : ℕ) → Step → Bool
asks i (Begins station server limits request) = nat_eq i station
asks i step = false

-- in these steps it asks none
abbrev pub AsksNone : (station : ℕ) → List Step → Type 0
AsksNone i [] = Unit {0}
AsksNone i (step ∷ before) = (asks i step ≡ false) × AsksNone i before

-- an ask, and all that its client sent and its server sent for that, is over after so many parts of real time: a deadline by the slowest clock, the life of a
-- copy, the life of an entry by the slowest clock, and the life of a copy once more. These are 135,001 ms where clocks are exact, in whole milliseconds, and a
-- copy lives for 5,000.
abbrev pub pause : Pace → ℕ
pause p = most p DEADLINE + 1 + p.life + most p KEEP + p.life

-- ---- where stations may start again with other settings

-- in these moves it asks none
abbrev pub AsksNoneIn : (station : ℕ) → List Move → Type 0
AsksNoneIn i [] = Unit {0}
AsksNoneIn i (Goes step ∷ later) = (asks i step ≡ false) × AsksNoneIn i later
AsksNoneIn i (StartsAnew anew ∷ later) = AsksNoneIn i later

-- a station that asks none for so long is quiet
abbrev pub PausesMakeQuietIn : Type 0
PausesMakeQuietIn =
    (W overtake station : ℕ) (ever : Reuses) (first p : Plant) → IsReachedIn W overtake ever first p → (moves : List Move) (new : Plant)
    → MoveRun overtake p moves new → AsksNoneIn station moves → p.time.now + pause p.time.pace ≤ new.time.now → is_quiet (world_of new) station ≡ true
