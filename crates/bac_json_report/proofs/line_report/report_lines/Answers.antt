use Rattle.bac_json_report.proofs.LinesSeen.{reported}
use Rattle.bac_json_report.proofs.line_report.report_lines.Goals as goal

pub returns : goal.returns
returns g c =
    reported g.V.LineReport.State g.V.LineReport.Visits g.V.LineReport.Ends (g.R.Read.remaining c.args.input.now) (g.W.Write.contents c.args.out.now)
    (g.W.Write.contents c.visit_lines.new.out) (g.W.Write.contents c.end_lines.new.out) (g.V.LineReport.state c.args.report.now)
    (g.V.LineReport.state c.visit_lines.new.report) c.in_ok-status.status c.in_ok-visit_lines.ensures c.in_ok-status.ensures
