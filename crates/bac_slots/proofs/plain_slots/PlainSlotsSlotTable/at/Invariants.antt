-- No slot so far has that place.
use Rattle.std.proofs.Common.{◌≡◌, drop}
use Rattle.bac_slots.specs.Slots.{of_rank}
use Rattle.bac_slots.proofs.plain_slots.PlainSlotsSlotTable.at.Given as goal

abbrev pub invariant-loop-slot : goal.invariant-loop-slot
invariant-loop-slot g l = of_rank g.K.Ord.cmp l.n l.self-inside.slots.items l.self-inside.slots.items
    ≡ of_rank g.K.Ord.cmp l.n l.self-inside.slots.items (drop l.slot-index l.self-inside.slots.items)
