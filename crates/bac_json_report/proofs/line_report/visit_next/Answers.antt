use Rattle.bac_json_report.proofs.LinesSeen.{line_seen}
use Rattle.bac_json_report.proofs.line_report.visit_next.Goals as goal

pub returns-in-Ok : goal.returns-in-Ok
returns-in-Ok g c =
    line_seen g.V.LineReport.State g.V.LineReport.Visits (g.R.Read.remaining c.args.input.now) (g.R.Read.remaining c.next_line.new.input)
    (g.W.Write.contents c.args.out.now) (g.W.Write.contents c.visit_line.new.out) c.next_line.new.line.items c.deref.result.now
    (g.V.LineReport.state c.args.report.now) (g.V.LineReport.state c.visit_line.new.self) _ c.in-Ok-true.field-0-test c.deref.ensures.value
    c.in-Ok-true.ensures c.in-Ok.ensures
