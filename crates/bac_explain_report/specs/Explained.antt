-- What `bac explain` prints for a capture file, and its status.
use Rattle.std.specs.Prelude.{◌≡◌, ℕ, Bool, true, false, List, [], Option}
use Rattle.bac_text.specs.declared.status.Status.{Status}
use Rattle.bac_explain_report.specs.Blocks.{IsBlock, IsFramedBlock}
use Rattle.bac_explain_report.specs.FrameReports.{IsFrameReport}
use Rattle.bac_explain_report.specs.Reported as report
use Rattle.bac_explain_report.specs.Rest.{Printing}
use Rattle.bac_explain_report.specs.Devices.{DeviceView}
use Rattle.bac_explain_report.specs.Summaries.{last_lines}
use Rattle.bac_explain_report.specs.declared.selection.ReportOptions.{ReportOptions}
use Rattle.bac_explain_report.specs.declared.selection.Selection.{Selection}
use Rattle.bac_explain_report.specs.declared.tally.Tally.{Tally}

abbrev pub AreLastLines : Selection → Tally → List DeviceView → (text : List ℕ) → Type 0
AreLastLines s t devices text = text ≡ last_lines s t devices

-- ---- a file

-- a file is explained frame by frame, with transactions in a form, and no other input
abbrev pub IsReportWith : Printing → ReportOptions → Option ℕ → Option (List ℕ) → Option (List ℕ) → Option (List ℕ) → Status → Type 0
IsReportWith IsOne o also input old new status = report.IsReportOf [] (report.Untimed (IsFrameReport IsOne)) IsOne AreLastLines o also input old new status

-- a transaction with its frames or without
abbrev pub block_form : (frames : Bool) → Printing
block_form true = IsFramedBlock
block_form false = IsBlock

abbrev pub IsReportOf : ReportOptions → Option ℕ → Option (List ℕ) → Option (List ℕ) → Option (List ℕ) → Status → Type 0
IsReportOf o also input old new status = IsReportWith (block_form o.frames) o also input old new status
