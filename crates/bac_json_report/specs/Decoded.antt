-- What `bac decode --json` prints, and its status.
use Rattle.std.specs.Prelude.{◌≡◌, ℕ, ◌+◌, ◌&&◌, Bool, true, false, List, [], Option, Some, None}
use Rattle.std.specs.Io.KnownBytes.{Keeps}
use Rattle.bac_json_report.specs.Datagrams.{IsDatagramText, bad_line_form}
use Rattle.bac_json_report.specs.Lines.{IsLineOf}
use Rattle.bac_json_report.specs.LineReports.{AreReported, Ending, Prints}
use Rattle.bac_json_report.specs.declared.decode.Decoding.{Decoding}
use Rattle.bac_text.specs.DecodedLines.{DatagramLine, datagram_line_at}
use Rattle.bac_text.specs.Groups.{octets_in}
use Rattle.bac_text.specs.Outcome.{IfOctets, shown_status}
use Rattle.bac_text.specs.Statuses.{IfEnded}
use Rattle.bac_text.specs.Texts.{AppendsText}
use Rattle.bac_text.specs.declared.status.Status.{Status}
use Rattle.bac_text.specs.declared.status.Status.TheVariants as status

-- ---- one datagram

abbrev pub IsShown : (datagram : List ℕ) → (old new : Option (List ℕ)) → Status → Type 0
IsShown datagram old new status.Done = AppendsText old new (IsDatagramText 1 true datagram)
IsShown datagram old new status.Faulty = AppendsText old new (IsDatagramText 1 false datagram)
IsShown datagram old new status.CommandLine = ⊥
IsShown datagram old new status.Output = ⊥
IsShown datagram old new status.Memory = ⊥

-- the same of a datagram given in hexadecimal; of text that is no hexadecimal nothing is printed; of output and memory the status says nothing
abbrev pub IsDecoded : (text : List ℕ) → (old new : Option (List ℕ)) → Status → Type 0
IsDecoded text old new status.Done = IfOctets (octets_in text) (λ octets. IsShown octets old new status.Done) ⊥
IsDecoded text old new status.Faulty = IfOctets (octets_in text) (λ octets. IsShown octets old new status.Faulty) ⊥
IsDecoded text old new status.CommandLine = IfOctets (octets_in text) (λ octets. ⊥) (Keeps old new)
IsDecoded text old new status.Output = Unit {0}
IsDecoded text old new status.Memory = Unit {0}

-- ---- a datagram on each line

-- what is printed of the line with that number, and whether it has no fault
abbrev pub IsLineText : (number : ℕ) → DatagramLine → (fine : Bool) → (text : List ℕ) → Type 0
IsLineText number None fine text = (fine ≡ true) × (text ≡ [])
IsLineText number (Some None) fine text = (fine ≡ false) × IsLineOf (λ d. d ≡ bad_line_form number) text
IsLineText number (Some (Some datagram)) fine text = IsDatagramText number fine datagram text

-- how many lines there are so far, and whether none of them has a fault
pub record Progress : Type 0 where
  pub lines : ℕ
  pub fine : Bool

abbrev pub progress : Decoding → Progress
progress d = record { lines = d.lines; fine = d.fine }

pub record SeesLine (line : List ℕ) (before : Progress) (text : List ℕ) (next : Progress) : Type 0 where
  pub fine : Bool
  pub text_of : IsLineText (before.lines + 1) (datagram_line_at line) fine text
  pub lines : next.lines ≡ before.lines + 1
  pub all : next.fine ≡ before.fine && fine

-- nothing is printed below the lines
abbrev pub EndsLines : Ending Progress
EndsLines p text s = (text ≡ []) × (s ≡ shown_status p.fine)

abbrev pub begun : Progress
begun = record { lines = 0; fine = true }

-- where the command ends with 0 or 1, each line was printed; the other statuses say nothing of it
abbrev pub AreDecoded : (input old new : Option (List ℕ)) → Status → Type 0
AreDecoded input old new s = IfEnded s (AreReported Progress SeesLine EndsLines begun input old new s)
