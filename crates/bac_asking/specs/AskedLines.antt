-- What `ask --lines` asks and prints: a client asks the requests of some lines in turn.
use Rattle.std.specs.Prelude.{◌≡◌, ℕ, Bool, List, [], ◌∷◌, ◌++◌, codes, decimal, Option, None, Some, IfSome}
use Rattle.std.specs.Io.KnownBytes.{Appends}
use Rattle.bac_npdu.specs.Peers.{PeerView}
use Rattle.bac_driver.specs.Runs.{Timed}
use Rattle.bac_driver.specs.Views.{question_view}
use Rattle.bac_driver.specs.declared.question.AskEnd.{AskEnd}
use Rattle.bac_environment.specs.QuestionLines.{AreQuestions, HaveBadLine, Numbered, asker_of, lines_in, name_in_line}
use Rattle.bac_environment.specs.declared.question_lines.LineQuestion.{LineQuestion}
use Rattle.bac_asking.specs.Clients.{AsksOn}
use Rattle.bac_environment.specs.Sockets.{Links}
use Rattle.bac_asking.specs.Recording.{PrintsAsk}
use Rattle.bac_asking.specs.Rounds.{DoesNothing, Doing, IsNext}
use Rattle.bac_asking.specs.declared.asking.Asking.{Asking}
use Rattle.bac_asking.specs.declared.recording.RecordForm.{RecordForm}

-- the name, where a line has one
abbrev pub name_text : (name : Option (List ℕ)) → List ℕ
name_text None = []
name_text (Some name) = name ++ codes ": "

abbrev pub front_text : (number : ℕ) → (name : Option (List ℕ)) → List ℕ
front_text number name = (decimal number ++ codes ": ") ++ name_text name

-- the number and the name stand before what is printed of a line; in records they are members, or are not printed
abbrev pub PrintsFront : Option RecordForm → LineQuestion → (old new : Option (List ℕ)) → Type 0
PrintsFront None l old new = Appends old new (front_text l.number (name_in_line l))
PrintsFront (Some form) l old new = new ≡ old

-- the request of a line was asked, and how that ended was printed behind the line's number
pub record AsksLine (IsOn : Links) (asking : Asking) (line : LineQuestion) (succeeded : Bool) (before after : Timed) (old new : Option (List ℕ)) : Type 0 where
  pub between : Option (List ℕ)
  pub front : PrintsFront asking.records line old between
  pub how : AskEnd
  pub asks : AsksOn IsOn asking (question_view line.question) how before after
  pub told : PrintsAsk asking.records asking.output_format (asker_of asking.has_names line) (question_view line.question) how succeeded between new

-- the requests of lines were asked, one after the other
abbrev pub AsksEach : Links → Asking → List LineQuestion → Doing
AsksEach IsOn asking [] all before after old new = DoesNothing all before after old new
AsksEach IsOn asking (line ∷ lines) all before after old new =
    IsNext (AsksLine IsOn asking line) (AsksEach IsOn asking lines) all before after old new

-- a text is that of a file, where this is known
abbrev pub IsTextOf : (text : List ℕ) → (content : Option (List ℕ)) → Type 0
IsTextOf text content = IfSome content (λ file. text ≡ file)

abbrev pub ReadsLines : (default : Option PeerView) → (lines : Option (List Numbered)) → (text : List ℕ) → Type 0
ReadsLines default None text = HaveBadLine default (lines_in text)
ReadsLines default (Some found) text = AreQuestions default 1 (lines_in text) found

-- what the lines of a file ask, by the text that was read of it; None where one is bad
pub record AreRead (default : Option PeerView) (lines : Option (List Numbered)) (content : Option (List ℕ)) : Type 0 where
  pub text : List ℕ
  pub known : IsTextOf text content
  pub read : ReadsLines default lines text
