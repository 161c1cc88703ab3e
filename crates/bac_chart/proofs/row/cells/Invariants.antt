-- The cells of the nodes before this one are there.
use Rattle.std.proofs.Common.{◌≡◌}
use Rattle.bac_chart.specs.Rows.{cells}
use Rattle.bac_chart.specs.Views.{line_view}
use Rattle.bac_chart.proofs.row.cells.Given as goal

abbrev pub invariant-loop-node : goal.invariant-loop-node
invariant-loop-node l = l.text.items ≡ cells l.nodes (line_view l.line) l.node
