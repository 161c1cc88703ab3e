-- What `bac check --json` prints of a capture of lines.
use Rattle.std.specs.Prelude.{◌≡◌, ℕ, ◌+◌, ◌-◌, Bool, true, false, List, [], ◌∷◌, codes, Option, Some, None}
use Rattle.bac_json_report.specs.Faults.{fault_form, outer_fault_form}
use Rattle.bac_json_report.specs.LineReports.{AreReported}
use Rattle.bac_json_report.specs.Lines.{IsLineOf}
use Rattle.bac_json_report.specs.declared.line_check.LineCheck.{LineCheck}
use Rattle.bac_text.specs.declared.fault.LineFault.{LineFault}
use Rattle.bac_text.specs.declared.fault.LineFault.TheVariants.{Datagram, MomentGoesBack, NoCaptureLine}
use Rattle.bac_text.specs.declared.fault.LineVerdict.{LineVerdict}
use Rattle.bac_text.specs.declared.fault.LineVerdict.TheVariants.{Bad, Good, Note}
use Rattle.bac_text.specs.declared.status.Status.{Status}
use Rattle.bac_text.specs.Lines.{IsJudged, bad_among, good_among, short_capture_at}
use Rattle.bac_text.specs.Statuses.{IfEnded, IsTallied}
use Rattle.serde_json.specs.Data.{Data, member, no_members, null, number, object, string, unsigned}

-- ---- a bad line

abbrev pub bad_line_form : (line : ℕ) → (fault : Data) → Data
bad_line_form line fault =
    object (member (codes "fault") fault (member (codes "line") (number (unsigned line)) (member (codes "type") (string (codes "fault")) no_members)))

abbrev pub line_fault_form : LineFault → Data
line_fault_form NoCaptureLine = outer_fault_form (codes "line") (codes "not a capture line")
line_fault_form MomentGoesBack = outer_fault_form (codes "line") (codes "moment goes back")
line_fault_form (Datagram fault function) = fault_form fault

abbrev pub verdict_fault : LineVerdict → Option Data
verdict_fault Good = None
verdict_fault Note = None
verdict_fault (Bad fault) = Some (line_fault_form fault)

-- of the line with that number: nothing where it has no fault
abbrev pub IsFaultText : (place : ℕ) → Option Data → (text : List ℕ) → Type 0
IsFaultText place None text = text ≡ []
IsFaultText place (Some fault) text = IsLineOf (λ d. d ≡ bad_line_form place fault) text

-- ---- all lines

-- whether notes are taken, how many lines there are so far, how many of them are good and bad, and the greatest moment of the capture lines
pub record Count : Type 0 where
  pub notes : Bool
  pub lines : ℕ
  pub good : ℕ
  pub bad : ℕ
  pub latest : ℕ

abbrev pub count_of : LineCheck → Count
count_of c = record { notes = c.notes; lines = c.tally.lines; good = c.tally.good; bad = c.tally.bad; latest = c.tally.latest }

abbrev pub no_lines : (notes : Bool) → Count
no_lines notes = record { notes = notes; lines = 0; good = 0; bad = 0; latest = 0 }

-- a line with this verdict is counted; the greatest moment is `latest` from then on
pub record IsCounted (verdict : LineVerdict) (latest : ℕ) (before next : Count) : Type 0 where
  pub notes : next.notes ≡ before.notes
  pub lines : next.lines ≡ before.lines + 1
  pub good : next.good ≡ before.good + good_among (verdict ∷ [])
  pub bad : next.bad ≡ before.bad + bad_among (verdict ∷ [])
  pub latest_is : next.latest ≡ latest

-- a line is judged and counted, and its verdict printed
pub record SeesLine (line : List ℕ) (before : Count) (text : List ℕ) (next : Count) : Type 0 where
  pub verdict : LineVerdict
  pub judged : IsJudged (short_capture_at before.notes line) before.latest verdict next.latest
  pub text_of : IsFaultText (before.lines + 1) (verdict_fault verdict) text
  pub counted : IsCounted verdict next.latest before next

-- all lines that are neither good nor bad are notes; null where none are taken
abbrev pub notes_form : (notes : Bool) → Count → Data
notes_form true c = number (unsigned (c.lines - (c.good + c.bad)))
notes_form false c = null

abbrev pub summary_form : Count → Data
summary_form c =
    object (member (codes "bad") (number (unsigned c.bad)) (member (codes "good") (number (unsigned c.good))
    (member (codes "lines") (number (unsigned c.lines)) (member (codes "notes") (notes_form c.notes c)
    (member (codes "type") (string (codes "summary")) no_members)))))

pub record EndsLines (c : Count) (text : List ℕ) (status : Status) : Type 0 where
  pub text_of : IsLineOf (λ d. d ≡ summary_form c) text
  pub tallied : IsTallied c.bad status

-- where the command ends with 0 or 1, all lines were checked; the other statuses say nothing of them
abbrev pub AreChecked : (notes : Bool) → (input old new : Option (List ℕ)) → Status → Type 0
AreChecked notes input old new s = IfEnded s (AreReported Count SeesLine EndsLines (no_lines notes) input old new s)
