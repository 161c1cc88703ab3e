-- The state of `explain`, and how a frame changes it.
use Rattle.std.specs.Prelude.{ℕ, ◌&&◌, Bool, true, false, not, [], Option, Some, None, is_none, is_some, Result, Ok, Err}
use Rattle.bac_capture.specs.Blocks.{FrameView}
use Rattle.bac_capture.specs.declared.fault.FileFault.{FileFault}
use Rattle.bac_explain.specs.Keys.{Key}
use Rattle.bac_explain.specs.Sightings.{SightingView}
use Rattle.bac_explain.specs.Tables.{Transactions, ClosedView, Heard, awaited, heard, over_out, with_step, with_telling}
use Rattle.bac_explain.specs.Transactions.{TransactionView, is_over}
use Rattle.bac_explain.specs.declared.finding.Finding.{Finding}
use Rattle.bac_explain.specs.declared.part.Role.{Role}
use Rattle.bac_explain.specs.declared.part.Role.TheVariants.{Request, Answer, Acknowledgement, GivesUp}
use Rattle.bac_explain.specs.declared.step.Step.{Step}
use Rattle.bac_explain_report.specs.Counting.{Sums, no_sums, with_devices}
use Rattle.bac_explain_report.specs.Seen.{seen_of}
use Rattle.bac_explain_report.specs.Selections.{passes, shown, told_finding}
use Rattle.bac_explain_report.specs.Tallies.{with_alone, with_blocks, with_finding, with_frame, with_unread}
use Rattle.bac_explain_report.specs.declared.selection.ReportOptions.{ReportOptions}
use Rattle.bac_explain_report.specs.declared.selection.Selection.{Selection}
use Rattle.bac_explain_report.specs.declared.tally.Tally.{Tally}
use Rattle.bac_explain_report.specs.declared.unread.Unread.{Unread}
use Rattle.bac_explain_report.specs.declared.unread.Unread.TheVariants.{File}

-- what is printed, the open transactions, and the counts
pub record Account : Type 0 where
  pub options : ReportOptions
  pub slots : Transactions
  pub sums : Sums

abbrev pub fresh : ReportOptions → Account
fresh o = record { options = o; slots = []; sums = no_sums }

-- the report on an APDU: its transaction, one that is over by then, one that it closes, and what is wrong with it, as far as they are printed; whether it comes
-- again after its transaction was told, and whether that is told now
pub record HearingView : Type 0 where
  pub key : Key
  pub over : Option ClosedView
  pub closed : Option ClosedView
  pub finding : Option Finding
  pub again : Bool
  pub answered : Bool

-- the report on a frame
pub data FrameReportView : Type 0 where
  NothingReported : FrameReportView
  UnreadReported : (why : Unread) → FrameReportView
  HeardReported : (hearing : HearingView) → FrameReportView

abbrev pub heard_tally : Selection → (over : Option ClosedView) → Heard → (is_alone : Bool) → Tally → Tally
heard_tally s over h is_alone t = with_alone is_alone (with_finding h.finding (with_blocks s h.closed (with_blocks s over t)))

-- what is wrong with an APDU is printed, and it is of no transaction
abbrev pub is_alone : Option TransactionView → (told : Option Finding) → Bool
is_alone t told = is_some told && is_none t

abbrev pub heard_sums : Selection → (over : Option ClosedView) → Heard → (is_alone : Bool) → Sums → Sums
heard_sums s over h is_alone sums = record {
  tally = heard_tally s over h is_alone sums.tally;
  devices = with_devices h.closed (with_devices over sums.devices);
}

-- an APDU of a request or a reply
abbrev pub is_sent : Role → Bool
is_sent (Request number) = true
is_sent (Answer number) = true
is_sent (Acknowledgement taken) = false
is_sent GivesUp = false

abbrev pub is_told : Option TransactionView → Bool
is_told None = false
is_told (Some t) = t.told

-- a request or a reply of a transaction that was told comes, and nothing is wrong with it
abbrev pub is_again : Role → Option Finding → Option TransactionView → Bool
is_again role finding t = is_sent role && is_none finding && is_told t

-- a transaction is told once it is over, if it passes then
abbrev pub is_answered : ReportOptions → Key → Option TransactionView → Bool
is_answered o key None = false
is_answered o key (Some t) = o.early && not t.told && is_over t && passes o.selection key t

abbrev pub told_by : (answered : Bool) → ℕ → Key → Transactions → Transactions
told_by true now key slots = with_telling now key slots
told_by false now key slots = slots

abbrev pub hearing_of : ReportOptions → ℕ → SightingView → (over : Option ClosedView) → Heard → (its : Option TransactionView) → (told : Option Finding)
    → (answered : Bool) → Sums → FrameReportView × Account
hearing_of o now s over h its told answered sums = (
  HeardReported (record {
    key = s.key;
    over = shown o.selection over;
    closed = shown o.selection h.closed;
    finding = told;
    again = is_again s.role h.finding its;
    answered = answered;
  }),
  record { options = o; slots = told_by answered now s.key h.slots; sums = heard_sums o.selection over h (is_alone its told) sums },
)

abbrev pub hearing_in : ReportOptions → ℕ → SightingView → (over : Option ClosedView) → Heard → (its : Option TransactionView) → Sums → FrameReportView × Account
hearing_in o now s over h its sums =
    hearing_of o now s over h its (told_finding o.selection s.key its h.finding) (is_answered o s.key its) sums

-- of the transactions those are printed that pass, and what is wrong where the transaction passes as it stands
abbrev pub hearing : ReportOptions → ℕ → SightingView → (over : Option ClosedView) → Heard → Sums → FrameReportView × Account
hearing o now s over h sums = hearing_in o now s over h (awaited now s.key h.slots) sums

-- the frame with this number is kept with the transaction
abbrev pub step_of : (number now : ℕ) → Role → Option Finding → Step
step_of number now role finding = record { frame = number; moment = now; role = role; finding = finding }

abbrev pub kept : (number now : ℕ) → SightingView → Heard → Heard
kept number now s h = record h { slots = with_step now s.key (step_of number now s.role h.finding) h.slots }

-- the transaction that began first is closed if it is over; then the APDU is handled
abbrev pub sighting_heard : ℕ → SightingView → Account → FrameReportView × Account
sighting_heard now s a =
    hearing a.options now s (over_out now a.slots).0
    (kept a.sums.tally.frames now s (heard a.options.strict_ids now s.key s.role s.octets (over_out now a.slots).1)) a.sums

abbrev pub unheard : Unread → Account → FrameReportView × Account
unheard why a = (UnreadReported why, record a { sums = record a.sums { tally = with_unread a.sums.tally } })

abbrev pub found_heard : Result (Option (ℕ × SightingView)) Unread → Account → FrameReportView × Account
found_heard (Err why) a = unheard why a
found_heard (Ok None) a = (NothingReported, a)
found_heard (Ok (Some s)) a = sighting_heard s.0 s.1 a

abbrev pub one_frame : Account → Account
one_frame a = record a { sums = record a.sums { tally = with_frame a.sums.tally } }

-- a frame is handled; `also` is a port in addition to the sixteen
abbrev pub frame_heard : (also : Option ℕ) → FrameView → Account → FrameReportView × Account
frame_heard also frame a = found_heard (seen_of also frame) (one_frame a)

-- the file cannot be read further: this is printed for the frame that would follow
abbrev pub broken_off : FileFault → Account → FrameReportView × Account
broken_off fault a = unheard (File fault) (one_frame a)
