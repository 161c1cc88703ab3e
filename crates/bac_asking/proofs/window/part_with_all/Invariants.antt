-- The node that asks stays.
use Rattle.std.proofs.Common.{◌≡◌}
use Rattle.bac_asking.proofs.window.part_with_all.Given as goal

abbrev pub invariant-loop-left : goal.invariant-loop-left
invariant-loop-left g l = l.client.station ≡ l.fn.client.station
