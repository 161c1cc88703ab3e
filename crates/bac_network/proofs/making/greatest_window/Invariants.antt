-- The greatest so far, with the greatest of those that are left.
use Rattle.std.proofs.Common.{◌≡◌, ◌≤◌, max, drop}
use Rattle.bac_network.specs.Fresh.{greatest_window}
use Rattle.bac_network.proofs.making.greatest_window.Given as goal

abbrev pub invariant-loop-maker : goal.invariant-loop-maker
invariant-loop-maker l = (1 ≤ l.greatest) × (max l.greatest (greatest_window (drop l.maker-index l.makers)) ≡ greatest_window l.makers)
