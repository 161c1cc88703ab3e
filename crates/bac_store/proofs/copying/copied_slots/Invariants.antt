use Rattle.std.proofs.Common.{◌≡◌, map, take}
use Rattle.bac_store.specs.Views.{slot_view}
use Rattle.bac_store.proofs.copying.copied_slots.Given as goal

abbrev pub invariant-loop-slot : goal.invariant-loop-slot
invariant-loop-slot l = map slot_view l.copies.items ≡ map slot_view (take l.slot-index l.slots)
