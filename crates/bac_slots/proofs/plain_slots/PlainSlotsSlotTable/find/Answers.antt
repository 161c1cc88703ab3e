-- The number of lesser keys is the place in key order.
use Rattle.bac_slots.proofs.Slots.{value_at-some}
use Rattle.bac_slots.proofs.plain_slots.PlainSlotsSlotTable.find.Goals as goal

pub returns-clause-place : goal.returns-clause-place
returns-clause-place g c = rw (← c.self.view_is)
    (value_at-some g.K.PartialEq.eq c.args.key.now c.in-Some._at c.self.inside.slots.items c.in-Some.ensures.1, c.rank_of.ensures)
