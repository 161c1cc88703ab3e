-- The rows so far, and then the others.
use Rattle.std.proofs.Common.{◌≡◌, ◌++◌, drop, map}
use Rattle.bac_explain_report.specs.PairViews.{row_view}
use Rattle.bac_explain_report.specs.Pairs.{rows_at}
use Rattle.bac_explain_report.proofs.pair_sketch.rows_at.Given as goal

abbrev pub invariant-loop-row : goal.invariant-loop-row
invariant-loop-row l = l.text.items ++ rows_at l.place (map row_view (drop l.row-index l.rows)) ≡ rows_at l.place (map row_view l.rows)
