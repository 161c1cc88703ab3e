use Rattle.bac_json_report.proofs.LinesSeen.{none_seen, one_more, all_seen}
use Rattle.bac_json_report.proofs.line_report.visit_lines.Goals as goal

pub loop-init : goal.loop-init
loop-init g c =
    none_seen g.V.LineReport.State g.V.LineReport.Visits (g.R.Read.remaining c.args.input.now) (g.W.Write.contents c.args.out.now)
    (g.V.LineReport.state c.args.report.now)

pub loop-preserved : goal.loop-preserved
loop-preserved g c =
    one_more g.V.LineReport.State g.V.LineReport.Visits (g.R.Read.remaining c.args.input.now) (g.R.Read.remaining c.loop.input)
    (g.R.Read.remaining c.visit_next.new.input) (g.W.Write.contents c.args.out.now) (g.W.Write.contents c.loop.out) (g.W.Write.contents c.visit_next.new.out)
    (g.V.LineReport.state c.args.report.now) (g.V.LineReport.state c.loop.report) (g.V.LineReport.state c.visit_next.new.report)
    c.in_ok-visit_next.field-0 c.loop.invariant c.in_ok-visit_next.ensures c.if-not-branch.false

pub returns-then-not-branch : goal.returns-then-not-branch
returns-then-not-branch g c =
    all_seen g.V.LineReport.State g.V.LineReport.Visits (g.R.Read.remaining c.args.input.now) (g.R.Read.remaining c.loop.input)
    (g.R.Read.remaining c.visit_next.new.input) (g.W.Write.contents c.args.out.now) (g.W.Write.contents c.loop.out) (g.W.Write.contents c.visit_next.new.out)
    (g.V.LineReport.state c.args.report.now) (g.V.LineReport.state c.loop.report) (g.V.LineReport.state c.visit_next.new.report)
    c.in_ok-visit_next.field-0 c.loop.invariant c.in_ok-visit_next.ensures c.if-not-branch.true
