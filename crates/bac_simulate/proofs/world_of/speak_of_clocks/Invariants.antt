-- No line so far speaks of a clock.
use Rattle.std.proofs.Common.{◌≡◌, drop, map}
use Rattle.std.specs.List.{list_any}
use Rattle.bac_simulate.specs.Houses.{is_of_clock}
use Rattle.bac_simulate.specs.Views.{line_view}
use Rattle.bac_simulate.proofs.world_of.speak_of_clocks.Given as goal

abbrev pub invariant-loop-said : goal.invariant-loop-said
invariant-loop-said l = list_any is_of_clock (map line_view (drop l.said-index l.lines)) ≡ list_any is_of_clock (map line_view l.lines)
