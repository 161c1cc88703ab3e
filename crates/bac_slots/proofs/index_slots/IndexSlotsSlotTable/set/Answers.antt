-- Another value; the keys and the index are unchanged.
use Rattle.std.proofs.Common.{◌∙◌, ap, sym, Some, length-set}
use Rattle.bac_slots.proofs.Slots.{with_value-none}
use Rattle.bac_slots.proofs.Joined.{joined_absent, joined_set, joined_value}
use Rattle.bac_slots.proofs.index_slots.IndexSlotsSlotTable.set.Goals as goal

pub returns-in_default-clause-value : goal.returns-in_default-clause-value
returns-in_default-clause-value g c =
    rw (← c.self.view_is) (sym (joined_absent g.K.PartialEq.eq c.args.key.now c.self.inside.keys.items c.self.inside.entries.items c.in_default.ensures))

pub returns-in_default-clause-slots : goal.returns-in_default-clause-slots
returns-in_default-clause-slots g c =
    let absent = joined_absent g.K.PartialEq.eq c.args.key.now c.self.inside.keys.items c.self.inside.entries.items c.in_default.ensures in
    rw (← c.self.view_is) (sym (with_value-none g.K.PartialEq.eq c.args.key.now c.args.value _ absent))

pub returns-clause-slots : goal.returns-clause-slots
returns-clause-slots g c =
    rw (← c.self.view_is) (joined_set g.K.PartialEq.eq c.args.key.now c.args.value c.replace.new.dest c.in-Some.seen.place
    c.self.inside.keys.items c.self.inside.entries.items c.index_mut-entry.result.now c.self.invariant.7 c.in-Some.ensures.3
    c.index_mut-entry.ensures.value c.replace.ensures.after)

pub returns-clause-value : goal.returns-clause-value
returns-clause-value g c =
    rw (← c.self.view_is) (ap (λ v. Some v) c.replace.ensures.value
    ∙ sym (joined_value g.K.PartialEq.eq c.args.key.now c.in-Some.seen.place c.self.inside.keys.items c.self.inside.entries.items
    c.index_mut-entry.result.now c.self.invariant.7 c.in-Some.ensures.3 c.index_mut-entry.ensures.value))

pub invariant_of-self : goal.invariant_of-self
invariant_of-self g c = let i = c.self.invariant in (i.0, i.1, i.2, i.3, i.4, i.5, i.6, simp length-set (i.7))
