-- No node before that one is to have the link of one before it.
use Rattle.std.proofs.Common.{◌<◌}
use Rattle.bac_network.specs.Fresh.{HaveSameLink}
use Rattle.bac_network.proofs.making.have_same_link.Given as goal

abbrev pub invariant-loop-i : goal.invariant-loop-i
invariant-loop-i l = (h : HaveSameLink l.makers) → h.second < l.i → ⊥
