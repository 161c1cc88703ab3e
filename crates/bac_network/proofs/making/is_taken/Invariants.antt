-- No node before that one is to have the link.
use Rattle.bac_network.specs.Fresh.{IsTaken}
use Rattle.bac_network.proofs.making.is_taken.Given as goal

abbrev pub invariant-loop-i : goal.invariant-loop-i
invariant-loop-i l = IsTaken l.makers l.i l.link → ⊥
