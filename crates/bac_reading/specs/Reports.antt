-- What `check` and `explain` print of a capture, and their statuses.
use Rattle.std.specs.Prelude.{ℕ, true, List, Option}
use Rattle.bac_capture.specs.Checked as checked
use Rattle.bac_explain_html.specs.Pages as page
use Rattle.bac_explain_json.specs.Lines as explained_json
use Rattle.bac_explain_report.specs.Charted as charted
use Rattle.bac_explain_report.specs.Explained as explained
use Rattle.bac_json_report.specs.CheckedFiles as checked_json
use Rattle.bac_json_report.specs.CheckedLines as lines_json
use Rattle.bac_reading.specs.Files.{IsPrintedFile}
use Rattle.bac_reading.specs.declared.report.Report.{Report}
use Rattle.bac_reading.specs.declared.report.Report.TheVariants.{Chart, Check, CheckJson, CheckLines, CheckLinesJson, Explain, ExplainHtml, ExplainJson}
use Rattle.bac_text.specs.Checked as lines
use Rattle.bac_text.specs.declared.status.Status.{Status}

-- the capture was read to its end, and this was printed; there is a port beside those of BACnet/IP, or none
abbrev pub IsReport : Report → (also : Option ℕ) → (content old new : Option (List ℕ)) → Status → Type 0
IsReport (Check in_words) also content old new s = checked.IsReportOf also in_words content old new s
IsReport CheckJson also content old new s = checked_json.IsReportOf also content old new s
IsReport (CheckLines in_words) also content old new s = lines.IsReportAs in_words true content old new s
IsReport CheckLinesJson also content old new s = lines_json.AreChecked true content old new s
IsReport (Explain options) also content old new s = explained.IsReportOf options also content old new s
IsReport (ExplainJson options) also content old new s = explained_json.IsReportOf options also content old new s
IsReport (ExplainHtml options) also content old new s = page.IsReportOf options also content old new s
IsReport (Chart options) also content old new s = charted.IsReportOf options also content old new s

abbrev pub IsReportedFile : (IsAt : (path : List ℕ) → (content : Option (List ℕ)) → Type 0) → Report → (path : List ℕ) → (also : Option ℕ) → Status
    → (old new : Option (List ℕ)) → Type 0
IsReportedFile IsAt report path also s old new = IsPrintedFile IsAt path s (λ content. IsReport report also content old new s)
