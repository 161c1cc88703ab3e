-- What `bac explain --json` prints of a capture file: an object for each record of the plain lines.
use Rattle.std.specs.Prelude.{◌≡◌, ℕ, ◌++◌, List, [], codes, Option, Some, None}
use Rattle.bac_explain.specs.Keys.{Key}
use Rattle.bac_explain.specs.Tables.{ClosedView}
use Rattle.bac_explain.specs.Texts.{finding_text}
use Rattle.bac_explain.specs.declared.finding.Finding.{Finding}
use Rattle.bac_explain_report.specs.Accounts.{FrameReportView, HearingView}
use Rattle.bac_explain_report.specs.Accounts.FrameReportView.{NothingReported, UnreadReported, HeardReported}
use Rattle.bac_explain_report.specs.Devices.{DeviceView}
use Rattle.bac_explain_report.specs.Reported as report
use Rattle.bac_explain_report.specs.Rest.{IsOptional}
use Rattle.bac_explain_report.specs.Unread.{unread_text}
use Rattle.bac_explain_report.specs.declared.selection.ReportOptions.{ReportOptions}
use Rattle.bac_explain_report.specs.declared.selection.Selection.{Selection}
use Rattle.bac_explain_report.specs.declared.tally.Tally.{Tally}
use Rattle.bac_explain_report.specs.declared.unread.Unread.{Unread}
use Rattle.bac_json.specs.Forms.{optional_number}
use Rattle.bac_json_report.specs.Lines.{IsLineOf}
use Rattle.bac_json_report.specs.TimeForms.{IsTimeForm}
use Rattle.bac_text.specs.Peers.{peer_text}
use Rattle.bac_text.specs.declared.status.Status.{Status}
use Rattle.serde_json.specs.Data.{Data, member, no_members, number, object, string, unsigned}
use Rattle.bac_explain_json.specs.Objects.{IsObject}
use Rattle.bac_explain_json.specs.Summaries.{summary_form}

-- ---- a frame, by its number, with its moment in milliseconds and as text, where the file has one

abbrev pub unread_form : (frame : ℕ) → (moment : Option ℕ) → (time : Data) → Unread → Data
unread_form frame moment time why =
    object (member (codes "frame") (number (unsigned frame)) (member (codes "kind") (string (codes "unread"))
    (member (codes "moment") (optional_number moment) (member (codes "text") (string (unread_text why)) (member (codes "time") time no_members)))))

pub record IsUnread (frame : ℕ) (moment : Option ℕ) (why : Unread) (d : Data) : Type 0 where
  pub time : Data
  pub time_of : IsTimeForm moment time
  pub is : d ≡ unread_form frame moment time why

abbrev pub finding_form : (frame : ℕ) → (moment : Option ℕ) → (time : Data) → Key → Finding → Data
finding_form frame moment time k finding =
    object (member (codes "client") (string (peer_text k.client)) (member (codes "finding") (string (finding_text finding))
    (member (codes "frame") (number (unsigned frame)) (member (codes "invoke_id") (number (unsigned k.invoke_id))
    (member (codes "kind") (string (codes "finding")) (member (codes "moment") (optional_number moment)
    (member (codes "server") (string (peer_text k.server)) (member (codes "time") time no_members))))))))

pub record IsFinding (frame : ℕ) (moment : Option ℕ) (k : Key) (finding : Finding) (d : Data) : Type 0 where
  pub time : Data
  pub time_of : IsTimeForm moment time
  pub is : d ≡ finding_form frame moment time k finding

-- nothing where that is not printed
abbrev pub IsFindingLine : (frame : ℕ) → (moment : Option ℕ) → Key → Option Finding → (text : List ℕ) → Type 0
IsFindingLine frame moment k None text = text ≡ []
IsFindingLine frame moment k (Some finding) text = IsLineOf (IsFinding frame moment k finding) text

abbrev pub IsTransactionLine : ClosedView → (text : List ℕ) → Type 0
IsTransactionLine c text = IsLineOf (IsObject c) text

-- the transactions that close come first
pub record IsHearing (frame : ℕ) (moment : Option ℕ) (h : HearingView) (text : List ℕ) : Type 0 where
  pub over : List ℕ
  pub closed : List ℕ
  pub found : List ℕ
  pub is_over : IsOptional IsTransactionLine h.over over
  pub is_closed : IsOptional IsTransactionLine h.closed closed
  pub is_found : IsFindingLine frame moment h.key h.finding found
  pub is : text ≡ (over ++ closed) ++ found

abbrev pub IsFrameLine : (frame : ℕ) → (moment : Option ℕ) → FrameReportView → (text : List ℕ) → Type 0
IsFrameLine frame moment NothingReported text = text ≡ []
IsFrameLine frame moment (UnreadReported why) text = IsLineOf (IsUnread frame moment why) text
IsFrameLine frame moment (HeardReported h) text = IsHearing frame moment h text

-- ---- at the end

abbrev pub IsSummaryLine : Selection → Tally → List DeviceView → (text : List ℕ) → Type 0
IsSummaryLine s t devices text = IsLineOf (λ d. d ≡ summary_form t devices) text

-- ---- a file: the records, their order and the status are those of the plain lines

abbrev pub IsReportOf : ReportOptions → (also : Option ℕ) → (input old new : Option (List ℕ)) → Status → Type 0
IsReportOf o also input old new status = report.IsReportOf [] IsFrameLine IsTransactionLine IsSummaryLine o also input old new status
