-- How what a task prints is shown.
use Rattle.std.specs.Prelude.{Bool, true, false, if◌then◌else◌, Option, Some, None}
use Rattle.bac_asking.specs.Given.{is_json, is_raw}
use Rattle.bac_asking.specs.declared.asking.Asking.{Asking}
use Rattle.bac_files.specs.declared.file_task.FileWork.{FileWork}
use Rattle.bac_files.specs.declared.file_task.FileWork.TheVariants as files
use Rattle.bac_reading.specs.declared.decoding.Decoding.{Decoding}
use Rattle.bac_reading.specs.declared.decoding.Decoding.TheVariants as decodings
use Rattle.bac_reading.specs.declared.decoding.LayerForm.TheVariants as layers
use Rattle.bac_reading.specs.declared.report.Report.{Report}
use Rattle.bac_reading.specs.declared.report.Report.TheVariants as reports
use Rattle.bac_serving.specs.declared.listing.ListForm.{ListForm}
use Rattle.bac_serving.specs.declared.listing.ListForm.TheVariants as lists
use Rattle.bac_shown.specs.declared.form.Form.{Form}
use Rattle.bac_shown.specs.declared.form.Form.TheVariants.{Text, Json}
use Rattle.bac_simulate.specs.declared.view.View.{View}
use Rattle.bac_simulate.specs.declared.view.View.TheVariants as views
use Rattle.bac_command_line.specs.declared.task.Task.{Task}
use Rattle.bac_command_line.specs.declared.task.Task.TheVariants as task

abbrev pub form_by : (is_json : Bool) → Form
form_by is_json = if is_json then Json else Text

abbrev pub is_json_decoding : Decoding → Bool
is_json_decoding (decodings.Lines layers.Objects) = true
is_json_decoding (decodings.Lines layers.Numbers) = false
is_json_decoding (decodings.Lines layers.Words) = false
is_json_decoding (decodings.Copied c) = false

abbrev pub is_json_report : Report → Bool
is_json_report (reports.Check in_words) = false
is_json_report reports.CheckJson = true
is_json_report (reports.CheckLines in_words) = false
is_json_report reports.CheckLinesJson = true
is_json_report (reports.Explain options) = false
is_json_report (reports.ExplainJson options) = true
is_json_report (reports.ExplainHtml options) = false
is_json_report (reports.Chart options) = false

-- a capture is octets
abbrev pub form_of_view : Option View → Option Form
form_of_view None = Some Text
form_of_view (Some views.Text) = Some Text
form_of_view (Some views.Objects) = Some Json
form_of_view (Some views.Chart) = Some Text
form_of_view (Some views.Mermaid) = Some Text
form_of_view (Some views.Capture) = None

abbrev pub form_of_list : ListForm → Form
form_of_list lists.Lines = Text
form_of_list lists.Objects = Json

abbrev pub form_of_ask : Asking → Option Form
form_of_ask asking = if is_raw asking then None else Some (form_by (is_json asking))

-- octets of a file go to standard output as they are
abbrev pub form_of_files : FileWork → Asking → Option Form
form_of_files (files.Fetch object None) asking = None
form_of_files work asking = form_of_ask asking

-- None where that is octets by nature, or wanted as it came
abbrev pub form_of : Task → Option Form
form_of (task.Answer datagram objects) = Some Text
form_of (task.Decode decoding datagrams) = Some (form_by (is_json_decoding decoding))
form_of (task.Report report capture) = Some (form_by (is_json_report report))
form_of (task.Simulate view script) = form_of_view view
form_of (task.Serve serving objects) = Some (form_by serving.json)
form_of (task.ServeLooking serving objects) = Some (form_by serving.json)
form_of (task.ServeKept serving objects path) = Some (form_by serving.json)
form_of (task.Keep path loss form) = Some (form_of_list form)
form_of (task.Forget forgetting) = Some Text
form_of (task.Ask asking peer words) = form_of_ask asking
form_of (task.AskLines asking default path) = form_of_ask asking
form_of (task.Files file work) = form_of_files work file.asking
form_of (task.Points points) = form_of_ask points.asking
form_of task.Pair = Some Text
form_of (task.Tell telling) = Some Text
