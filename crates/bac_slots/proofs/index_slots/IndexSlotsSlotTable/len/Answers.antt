-- There is a slot for each key, and their keys are distinct.
use Rattle.std.proofs.Common.{arith}
use Rattle.bac_slots.proofs.Joined.{joined_length, joined_IsDistinct}
use Rattle.bac_slots.proofs.index_slots.IndexSlotsSlotTable.len.Goals as goal

pub returns-clause-number : goal.returns-clause-number
returns-clause-number g c =
    let long = joined_length c.self.inside.keys.items c.self.inside.entries.items c.self.invariant.7 in
    rw (← c.self.view_is) (omega (arith, long, c.len.ensures, c.self.inside.keys.ok.0))

pub returns-clause-within : goal.returns-clause-within
returns-clause-within g c = rw (← c.self.view_is) (omega (arith, c.len.ensures, c.self.inside.keys.ok.0, c.self.invariant.2))

pub returns-clause-distinct : goal.returns-clause-distinct
returns-clause-distinct g c = rw (← c.self.view_is) (joined_IsDistinct g.K.PartialEq.eq c.self.inside.keys.items c.self.inside.entries.items c.self.invariant.3)
