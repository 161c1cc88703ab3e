-- What `read` asks, and whether each property came.
use Rattle.std.specs.Prelude.{◌≡◌, ℕ, Bool, true, false, List, [], ◌∷◌, map, Option, Some, None, codes, if◌then◌else◌}
use Rattle.bac_npdu.specs.Peers.{PeerView}
use Rattle.bac_service.specs.Values.{Reference}
use Rattle.bac_service.specs.Values.Request.{ReadProperty}
use Rattle.bac_service_text.specs.Dispatch.{request_of}
use Rattle.bac_driver.specs.Asking.{Question}
use Rattle.bac_driver.specs.Runs.{Timed}
use Rattle.bac_driver.specs.Views.{question_view}
use Rattle.bac_driver.specs.declared.question.AskEnd.{AskEnd}
use Rattle.bac_commands.specs.Questions.{question_for, question_of}
use Rattle.bac_environment.specs.declared.question_lines.LineQuestion.{LineQuestion}
use Rattle.bac_point_report.specs.Outcomes.{has_values, values_of}
use Rattle.bac_point_report.specs.Lines.{value_line}
use Rattle.bac_point_report.specs.Shown.{IsShown}
use Rattle.bac_ask_report.specs.Records.{Outcome}
use Rattle.std.specs.Io.KnownBytes.{Appends}
use Rattle.bac_point_report.specs.Targets.{Target, targets_of}
use Rattle.bac_asking.specs.Gathering.{Gathers}
use Rattle.bac_asking.specs.Online.{HasLooked, IsClient}
use Rattle.bac_asking.specs.Recording.{outcome_of}
use Rattle.bac_asking.specs.declared.asking.Asking.{Asking}
use Rattle.bac_environment.specs.Sockets.{Clocks, Links}

-- so many asks are under way at once
abbrev pub WINDOW : ℕ
WINDOW = 8

abbrev pub question_in : LineQuestion → Option Question
question_in line = Some (question_view line.question)

-- nothing more was asked, and that is so
pub record StopsHere (Says : Type 0) (before after : Timed) : Type 0 where
  pub at : after ≡ before
  pub says : Says

-- the question for a property
abbrev pub asked_of : PeerView → Reference → Option Question
asked_of peer r = Some (question_for peer (ReadProperty r))

-- the question that `bac ask read` has for those words, where they are one
abbrev pub read_by : PeerView → Target → Option Question
read_by peer t = question_of peer (request_of (codes "read" ∷ t.object ∷ t.property ∷ []))

-- it was answered with values of the very property
abbrev pub is_valued : LineQuestion → AskEnd → Bool
is_valued line end = has_values (question_view line.question).request (outcome_of end)

abbrev pub are_valued : List LineQuestion → List AskEnd → Bool
are_valued [] ends = true
are_valued (line ∷ lines) [] = false
are_valued (line ∷ lines) (end ∷ ends) = if is_valued line end then are_valued lines ends else false

-- the lines were asked, several at once; whether each was answered with a value
pub record ReadsLines (IsOn : Links) (asking : Asking) (lines : List LineQuestion) (all : Bool) (before after : Timed) : Type 0 where
  pub ends : List AskEnd
  pub gathers : Gathers IsOn asking WINDOW lines ends before after
  pub whether : all ≡ are_valued lines ends

-- a client at any port asked them
pub record ReadsByClient (IsOn : Links) (IsClock : Clocks) (asking : Asking) (lines : List LineQuestion) (all : Bool) : Type 0 where
  pub before : Timed
  pub after : Timed
  pub client : IsClient IsOn asking.host before
  pub clock : HasLooked IsClock before.told
  pub reads : ReadsLines IsOn asking lines all before after

-- a client asked for the properties that the words name; whether each was answered with a value
pub record ReadsWords (IsOn : Links) (IsClock : Clocks) (asking : Asking) (peer : PeerView) (words : List (List ℕ)) (all : Bool) : Type 0 where
  pub lines : List LineQuestion
  pub are : map question_in lines ≡ map (read_by peer) (targets_of words)
  pub reads : ReadsByClient IsOn IsClock asking lines all

-- ---- what is printed of a property

-- its line
pub record PrintsValue (named : Option Reference) (r : Reference) (run : List ℕ) (old new : Option (List ℕ)) : Type 0 where
  pub value : List ℕ
  pub is : IsShown r run value
  pub prints : Appends old new (value_line named value)

abbrev pub named_by : (is_named : Bool) → Reference → Option Reference
named_by true r = Some r
named_by false r = None

-- the line of its values; nothing where it got none
abbrev pub PrintsAnswerOf : Option (List ℕ) → (is_named : Bool) → Reference → (old new : Option (List ℕ)) → Type 0
PrintsAnswerOf (Some run) is_named r old new = PrintsValue (named_by is_named r) r run old new
PrintsAnswerOf None is_named r old new = new ≡ old

abbrev pub PrintsAnswer : (is_named : Bool) → Reference → Outcome → (old new : Option (List ℕ)) → Type 0
PrintsAnswer is_named r how old new = PrintsAnswerOf (values_of (ReadProperty r) how) is_named r old new
