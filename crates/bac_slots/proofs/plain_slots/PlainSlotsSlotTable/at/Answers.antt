-- The slot has that place.
use Rattle.std.proofs.Common.{◌∙◌, sym}
use Rattle.bac_slots.proofs.Slots.{of_rank-here}
use Rattle.bac_slots.proofs.plain_slots.PlainSlotsSlotTable.at.Goals as goal

pub returns-then-rank_of-n : goal.returns-then-rank_of-n
returns-then-rank_of-n g c =
    rw (← c.self.view_is) (of_rank-here g.K.Ord.cmp c.args.n c.loop-slot.slot-index c.self.inside.slots.items _ c.slot-item.result
    c.deref-slot-items.ensures.value c.loop-slot-test.true c.slot-item.is (sym c.rank_of.ensures ∙ c.if-rank_of-n.true) c.loop-slot.invariant)
