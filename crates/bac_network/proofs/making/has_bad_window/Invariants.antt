-- No node before that one is to have a bad window.
use Rattle.std.proofs.Common.{◌<◌}
use Rattle.bac_network.specs.Fresh.{HasBadWindow}
use Rattle.bac_network.proofs.making.has_bad_window.Given as goal

abbrev pub invariant-loop-maker : goal.invariant-loop-maker
invariant-loop-maker l = (h : HasBadWindow l.makers) → h.place < l.maker-index → ⊥
