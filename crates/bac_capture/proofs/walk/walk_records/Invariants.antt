use Rattle.bac_capture.specs.BlockViews.{layout_view}
use Rattle.bac_capture.proofs.Steps.{AreSoFar}
use Rattle.bac_capture.proofs.walk.walk_records.Given as goal

abbrev pub invariant-loop : goal.invariant-loop
invariant-loop g l =
    AreSoFar g.V.FileReport.State (g.V.FileReport.Visits l.initial.ports.also) g.V.FileReport.Breaks (layout_view l.initial.layout) (layout_view l.layout)
    (g.R.Read.remaining l.initial.input) (g.R.Read.remaining l.input) (g.W.Write.contents l.initial.out) (g.W.Write.contents l.out)
    (g.V.FileReport.state l.initial.report) (g.V.FileReport.state l.report)
