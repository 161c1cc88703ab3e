-- The starts so far, and those from here on, are all of them.
use Rattle.std.proofs.Common.{◌≡◌, ◌-◌, ◌++◌, map}
use Rattle.bac_simulate.specs.Houses.{starts_from}
use Rattle.bac_simulate.specs.Views.{line_view}
use Rattle.bac_simulate.proofs.world_of.starts_of.Given as goal

abbrev pub invariant-loop-node : goal.invariant-loop-node
invariant-loop-node l =
    l.starts.items ++ starts_from (map line_view l.lines) l.node (l.nodes - l.node) ≡ starts_from (map line_view l.lines) 0 l.nodes
