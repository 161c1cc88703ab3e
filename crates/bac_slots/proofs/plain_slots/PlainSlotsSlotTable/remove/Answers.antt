-- The slot is removed.
use Rattle.std.proofs.Common.{◌∙◌, ap, sym, subst, List, arith, Some}
use Rattle.bac_slots.specs.declared.slot.Slot.{Slot}
use Rattle.bac_slots.specs.Slots.{IsDistinct}
use Rattle.bac_slots.proofs.Slots.{without-none, without-IsAt, value_at-IsAt, IsDistinct-without}
use Rattle.bac_slots.proofs.plain_slots.PlainSlotsSlotTable.remove.Goals as goal

pub returns-in_default-clause-slots : goal.returns-in_default-clause-slots
returns-in_default-clause-slots g c = rw (← c.self.view_is) (sym (without-none g.K.PartialEq.eq c.args.key.now _ c.in_default.ensures))

pub returns-clause-slots : goal.returns-clause-slots
returns-clause-slots g c = rw (← c.self.view_is)
    (c.remove-value.ensures.items ∙ sym (without-IsAt g.K.PartialEq.eq c.args.key.now c.in-Some.at c.self.inside.slots.items c.in-Some.ensures.1))

pub returns-clause-value : goal.returns-clause-value
returns-clause-value g c =
    rw (← c.self.view_is) (ap (λ s. Some s.value) c.remove-value.ensures.value
    ∙ sym (value_at-IsAt g.K.PartialEq.eq c.args.key.now c.in-Some.at c.self.inside.slots.items c.remove-value.result c.in-Some.ensures.1))

pub invariant_of-self : goal.invariant_of-self
invariant_of-self g c =
    let items = without-IsAt g.K.PartialEq.eq c.args.key.now c.in-Some.at c.self.inside.slots.items c.in-Some.ensures.1 ∙ sym c.remove-value.ensures.items in (
      omega (arith, c.remove-value.ensures.capacity, c.self.invariant.0),
      omega (arith, c.remove-value.ensures.len, c.self.invariant.1),
      subst (λ (l : List (Slot _ _)). IsDistinct g.K.PartialEq.eq l) items
          (IsDistinct-without g.K.PartialEq.eq c.args.key.now c.self.inside.slots.items c.self.invariant.2),
    )
