-- The start so far, after the lines from here on, is that after all.
use Rattle.std.proofs.Common.{◌≡◌, drop, map}
use Rattle.bac_simulate.specs.Houses.{start_after}
use Rattle.bac_simulate.specs.Views.{line_view}
use Rattle.bac_simulate.proofs.world_of.start_of.Given as goal

abbrev pub invariant-loop-said : goal.invariant-loop-said
invariant-loop-said l = start_after l.node l.start (map line_view (drop l.said-index l.lines)) ≡ start_after l.node 0 (map line_view l.lines)
