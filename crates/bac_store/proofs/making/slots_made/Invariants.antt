use Rattle.std.proofs.Common.{◌≡◌, map}
use Rattle.bac_store.specs.Views.{property_view, slot_view}
use Rattle.bac_store.proofs.making.slots_made.Given as goal

abbrev pub invariant-loop-property : goal.invariant-loop-property
invariant-loop-property l = map slot_view l.slots.items ≡ map property_view l.yielded
