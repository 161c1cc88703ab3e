-- The heading, the frames, and then the end.
use Rattle.std.proofs.Common.{◌∙◌}
use Rattle.bac_capture.proofs.FileReports.{file_reported}
use Rattle.bac_capture.proofs.report.report_file.Goals as goal

pub returns : goal.returns
returns g c =
    file_reported g.V.FileReport.State (g.V.FileReport.Visits c.args.ports.also) g.V.FileReport.Breaks g.V.FileReport.heading g.V.FileReport.Ends
    (g.V.FileReport.Others (g.V.FileReport.state c.args.report.now)) (g.V.FileReport.state c.args.report.now) c.args.signature (g.R.Read.remaining c.args.input.now) (g.W.Write.contents c.args.out.now)
    (g.W.Write.contents c.print_text.new.out) (g.W.Write.contents c.walk_file.new.out) (g.W.Write.contents c.end.new.out)
    (g.V.FileReport.state c.walk_file.new.report) c.in_ok-status.status c.as_bytes.result.now (c.as_bytes.ensures.value ∙ c.heading_text.ensures)
    c.in_ok-print_text.ensures c.in_ok-walk_file.ensures c.in_ok-status.ensures
