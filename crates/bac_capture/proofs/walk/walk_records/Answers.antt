use Rattle.bac_capture.specs.BlockViews.{layout_view}
use Rattle.bac_capture.proofs.Steps.{none_so_far, more_so_far, all_ended, all_broken}
use Rattle.bac_capture.proofs.walk.walk_records.Goals as goal

pub loop-init : goal.loop-init
loop-init g c =
    none_so_far g.V.FileReport.State (g.V.FileReport.Visits c.args.ports.also) g.V.FileReport.Breaks (layout_view c.args.layout.now) (g.R.Read.remaining c.args.input.now)
    (g.W.Write.contents c.args.out.now) (g.V.FileReport.state c.args.report.now)

pub loop-preserved : goal.loop-preserved
loop-preserved g c =
    more_so_far g.V.FileReport.State (g.V.FileReport.Visits c.args.ports.also) g.V.FileReport.Breaks (layout_view c.args.layout.now) (layout_view c.loop.layout)
    (layout_view c.take_next.new.layout) (g.R.Read.remaining c.args.input.now) (g.R.Read.remaining c.loop.input) (g.R.Read.remaining c.take_next.new.input)
    (g.W.Write.contents c.args.out.now) (g.W.Write.contents c.loop.out) (g.W.Write.contents c.take_next.new.out)
    (g.V.FileReport.state c.args.report.now) (g.V.FileReport.state c.loop.report) (g.V.FileReport.state c.take_next.new.report)
    c.in_ok-take_next.field-0 c.loop.invariant c.in_ok-take_next.ensures c.in-Taken.is

pub returns-in-Ended : goal.returns-in-Ended
returns-in-Ended g c =
    all_ended g.V.FileReport.State (g.V.FileReport.Visits c.args.ports.also) g.V.FileReport.Breaks (layout_view c.args.layout.now) (layout_view c.loop.layout)
    (layout_view c.take_next.new.layout) (g.R.Read.remaining c.args.input.now) (g.R.Read.remaining c.loop.input) (g.R.Read.remaining c.take_next.new.input)
    (g.W.Write.contents c.args.out.now) (g.W.Write.contents c.loop.out) (g.W.Write.contents c.take_next.new.out)
    (g.V.FileReport.state c.args.report.now) (g.V.FileReport.state c.loop.report) (g.V.FileReport.state c.take_next.new.report)
    c.in_ok-take_next.field-0 c.loop.invariant c.in_ok-take_next.ensures c.in-Ended.is

pub returns-in-Broken : goal.returns-in-Broken
returns-in-Broken g c =
    all_broken g.V.FileReport.State (g.V.FileReport.Visits c.args.ports.also) g.V.FileReport.Breaks (layout_view c.args.layout.now) (layout_view c.loop.layout)
    (layout_view c.take_next.new.layout) (g.R.Read.remaining c.args.input.now) (g.R.Read.remaining c.loop.input) (g.R.Read.remaining c.take_next.new.input)
    (g.W.Write.contents c.args.out.now) (g.W.Write.contents c.loop.out) (g.W.Write.contents c.take_next.new.out)
    (g.V.FileReport.state c.args.report.now) (g.V.FileReport.state c.loop.report) (g.V.FileReport.state c.take_next.new.report)
    c.in_ok-take_next.field-0 c.loop.invariant c.in_ok-take_next.ensures c.in-Broken.is
