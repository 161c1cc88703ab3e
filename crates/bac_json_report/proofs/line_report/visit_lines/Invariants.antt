use Rattle.bac_json_report.proofs.LinesSeen.{AreFrontSeen}
use Rattle.bac_json_report.proofs.line_report.visit_lines.Given as goal

abbrev pub invariant-loop : goal.invariant-loop
invariant-loop g l =
    AreFrontSeen g.V.LineReport.State g.V.LineReport.Visits (g.R.Read.remaining l.initial.input) (g.R.Read.remaining l.input)
    (g.W.Write.contents l.initial.out) (g.W.Write.contents l.out) (g.V.LineReport.state l.initial.report) (g.V.LineReport.state l.report)
