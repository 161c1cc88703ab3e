-- No node before that one is to have a bad number of slots.
use Rattle.std.proofs.Common.{◌<◌}
use Rattle.bac_network.specs.Fresh.{HasBadSlotsWithin}
use Rattle.bac_network.proofs.making.has_bad_slots.Given as goal

abbrev pub invariant-loop-maker : goal.invariant-loop-maker
invariant-loop-maker l = (h : HasBadSlotsWithin l.most l.makers) → h.place < l.maker-index → ⊥
