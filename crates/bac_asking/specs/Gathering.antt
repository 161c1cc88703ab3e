-- What is asked where the requests of some lines are asked, several at once, and nothing is printed.
use Rattle.std.specs.Prelude.{◌≡◌, ℕ, ◌+◌, List, [], ◌∷◌, length}
use Rattle.bac_driver.specs.Runs.{Timed}
use Rattle.bac_driver.specs.declared.question.AskEnd.{AskEnd}
use Rattle.bac_environment.specs.declared.question_lines.LineQuestion.{LineQuestion}
use Rattle.bac_asking.specs.Fleets.{NEW_FLEET}
use Rattle.bac_asking.specs.InFlight.{Aloft, EndsLine, Plan, aloft, new_sky}
use Rattle.bac_environment.specs.Sockets.{Links}
use Rattle.bac_asking.specs.declared.asking.Asking.{Asking}

-- the ask of the line at that place ended so, and then the others
pub record EndsNext (IsOn : Links) (plan : Plan) (place : ℕ) (how : AskEnd) (Others : Aloft → Aloft → Type 0) (old new : Aloft) : Type 0 where
  pub middle : Aloft
  pub first : EndsLine IsOn plan place how old middle
  pub others : Others middle new

-- the asks of lines ended so, of which the first has that place
abbrev pub EndsFrom : Links → Plan → (place : ℕ) → List AskEnd → (old new : Aloft) → Type 0
EndsFrom IsOn plan place [] old new = new ≡ old
EndsFrom IsOn plan place (how ∷ others) old new = EndsNext IsOn plan place how (EndsFrom IsOn plan (place + 1) others) old new

-- those of all lines
pub record EndsAll (IsOn : Links) (plan : Plan) (ends : List AskEnd) (old new : Aloft) : Type 0 where
  pub run : EndsFrom IsOn plan 0 ends old new
  pub each : length ends ≡ length plan.lines

-- the requests of lines were asked, so many at once, and so they ended
pub record Gathers (IsOn : Links) (asking : Asking) (window : ℕ) (lines : List LineQuestion) (ends : List AskEnd) (before after : Timed) : Type 0 where
  pub share : ℕ
  pub last : Aloft
  pub all :
      EndsAll IsOn (record { asking = asking; lines = lines; window = window; share = share }) ends (aloft before NEW_FLEET (new_sky lines)) last
  pub same : after ≡ last.at
