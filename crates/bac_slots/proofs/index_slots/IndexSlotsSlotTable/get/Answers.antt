-- The value at the place that a search found.
use Rattle.bac_slots.proofs.Joined.{joined_absent, joined_value}
use Rattle.bac_slots.proofs.index_slots.IndexSlotsSlotTable.get.Goals as goal

pub returns-in-Ok : goal.returns-in-Ok
returns-in-Ok g c =
    rw (← c.self.view_is) (joined_value g.K.PartialEq.eq c.args.key.now c.in-Ok.seen.place c.self.inside.keys.items c.self.inside.entries.items
    c.index.result.now c.self.invariant.7 c.in-Ok.ensures.3 c.index.ensures)

pub returns-in-Err : goal.returns-in-Err
returns-in-Err g c =
    rw (← c.self.view_is) (joined_absent g.K.PartialEq.eq c.args.key.now c.self.inside.keys.items c.self.inside.entries.items c.in-Err.ensures.2)
