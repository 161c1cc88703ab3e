-- What `bac explain` prints for a capture file in one of its forms, and its status.
use Rattle.std.specs.Prelude.{◌≡◌, ℕ, Bool, true, false, [], ◌++◌, List, Option, Some, None}
use Rattle.bac_capture.specs.declared.fault.FileFault.{FileFault}
use Rattle.bac_capture.specs.Blocks.{FrameView}
use Rattle.bac_capture.specs.FileReports.{no_report}
use Rattle.bac_capture.specs.FileReports as report
use Rattle.bac_capture.specs.Walks.{Prints}
use Rattle.bac_explain.specs.Keys.{Key}
use Rattle.bac_explain.specs.Tables.{Transactions, awaited}
use Rattle.bac_explain.specs.Transactions.{TransactionView}
use Rattle.bac_text.specs.declared.status.Status.{Status}
use Rattle.bac_explain_report.specs.Accounts.{Account, FrameReportView, fresh, frame_heard, broken_off}
use Rattle.bac_explain_report.specs.Accounts.FrameReportView.{NothingReported, UnreadReported, HeardReported}
use Rattle.bac_explain_report.specs.Counting.{Sums}
use Rattle.bac_explain_report.specs.Devices.{DeviceView}
use Rattle.bac_explain_report.specs.Rest.{AreShown, Printing}
use Rattle.bac_explain_report.specs.Tallies.{status_of}
use Rattle.bac_explain_report.specs.declared.selection.ReportOptions.{ReportOptions}
use Rattle.bac_explain_report.specs.declared.selection.Selection.{Selection}
use Rattle.bac_explain_report.specs.declared.tally.Tally.{Tally}

-- what is printed of the report on the frame with a number and a moment, if it has one, and at the end
abbrev pub Telling : Type 1
Telling = (number : ℕ) → (moment : Option ℕ) → FrameReportView → (text : List ℕ) → Type 0

-- without the moment
abbrev pub Untimed : ((number : ℕ) → FrameReportView → (text : List ℕ) → Type 0) → Telling
Untimed IsTold number moment told text = IsTold number told text

abbrev pub Closing : Type 1
Closing = Selection → Tally → List DeviceView → (text : List ℕ) → Type 0

-- the transaction of the frame, if it is told now
abbrev pub IsAnsweredIn : Printing → (answered : Bool) → Key → Option TransactionView → (text : List ℕ) → Type 0
IsAnsweredIn IsOne false key t text = text ≡ []
IsAnsweredIn IsOne true key None text = text ≡ []
IsAnsweredIn IsOne true key (Some t) text = IsOne (record { key = key; transaction = t }) text

abbrev pub IsAnsweredAt : Printing → (now : ℕ) → FrameReportView → Transactions → (text : List ℕ) → Type 0
IsAnsweredAt IsOne now NothingReported slots text = text ≡ []
IsAnsweredAt IsOne now (UnreadReported why) slots text = text ≡ []
IsAnsweredAt IsOne now (HeardReported h) slots text = IsAnsweredIn IsOne h.answered h.key (awaited now h.key slots) text

abbrev pub IsAnswered : Printing → (moment : Option ℕ) → FrameReportView → Transactions → (text : List ℕ) → Type 0
IsAnswered IsOne None told slots text = text ≡ []
IsAnswered IsOne (Some now) told slots text = IsAnsweredAt IsOne now told slots text

-- the report on the frame with its number and its moment, and then its transaction
pub record IsFrameText (IsTold : Telling) (IsOne : Printing) (moment : Option ℕ) (what : FrameReportView) (a : Account) (text : List ℕ) : Type 0 where
  pub front : List ℕ
  pub back : List ℕ
  pub told : IsTold a.sums.tally.frames moment what front
  pub answered : IsAnswered IsOne moment what a.slots back
  pub are : text ≡ front ++ back

-- that is printed, and this is the next state
pub record IsPrintedNext (IsTold : Telling) (IsOne : Printing) (moment : Option ℕ) (what : FrameReportView × Account) (text : List ℕ) (next : Account)
    : Type 0 where
  pub is : next ≡ what.1
  pub told : IsFrameText IsTold IsOne moment what.0 next text

-- a frame is handled; `also` is a port in addition to the sixteen
abbrev pub SeesFrame : Telling → Printing → (also : Option ℕ) → Prints FrameView Account
SeesFrame IsTold IsOne also frame a text next = IsPrintedNext IsTold IsOne frame.moment (frame_heard also frame a) text next

-- what would follow has no moment
abbrev pub BreaksFile : Telling → Printing → Prints FileFault Account
BreaksFile IsTold IsOne fault a text next = IsPrintedNext IsTold IsOne None (broken_off fault a) text next

-- below the frames the transactions that are open are printed as far as they pass, and then the last lines
pub record EndsFile (IsOne : Printing) (AreLast : Closing) (a : Account) (text : List ℕ) (status : Status) : Type 0 where
  pub rest : List ℕ
  pub sums : Sums
  pub are : AreShown IsOne a.options.selection a.slots a.sums rest sums
  pub last : List ℕ
  pub are_last : AreLast a.options.selection sums.tally sums.devices last
  pub told : text ≡ rest ++ last
  pub is : status ≡ status_of a.options.strict sums.tally

-- a file is explained frame by frame, below the front, and no other input
abbrev pub IsReportOf : (front : List ℕ) → Telling → Printing → Closing → ReportOptions → (also : Option ℕ) → (input old new : Option (List ℕ)) → Status → Type 0
IsReportOf front IsTold IsOne AreLast o also input old new status =
    report.IsReportOf Account (SeesFrame IsTold IsOne also) (BreaksFile IsTold IsOne) (λ _. front) (EndsFile IsOne AreLast) no_report (fresh o) input old new status
