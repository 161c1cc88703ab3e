-- The names of the nodes before this one are there.
use Rattle.std.proofs.Common.{◌≡◌}
use Rattle.bac_chart.specs.Drawings.{names_text}
use Rattle.bac_chart.proofs.head.names_text.Given as goal

abbrev pub invariant-loop-node : goal.invariant-loop-node
invariant-loop-node l = l.text.items ≡ names_text l.form l.nodes l.node
