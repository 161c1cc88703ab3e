-- The charts of the pairs before this one are printed.
use Rattle.std.specs.Io.KnownBytes.{Appends}
use Rattle.bac_explain_report.specs.PairViews.{pairs_view}
use Rattle.bac_explain_report.specs.Pairs.{charts_text}
use Rattle.bac_explain_report.proofs.pair_sketch.PairSketch.print_charts.Given as goal

abbrev pub invariant-loop-place : goal.invariant-loop-place
invariant-loop-place g l = Appends (g.W.Write.contents l.fn.out) (g.W.Write.contents l.out) (charts_text (pairs_view l.fn.self) l.place)
