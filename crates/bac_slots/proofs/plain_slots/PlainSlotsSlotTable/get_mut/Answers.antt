-- The slot has whatever value the borrow left.
use Rattle.std.proofs.Common.{◌∙◌, ap, sym, refl, subst, List, Some, length-set}
use Rattle.bac_slots.specs.declared.slot.Slot.{Slot}
use Rattle.bac_slots.specs.Slots.{IsDistinct}
use Rattle.bac_slots.proofs.Slots.{with_value-none, set_is, value_at-IsAt, IsDistinct-with_value}
use Rattle.bac_slots.proofs.plain_slots.PlainSlotsSlotTable.get_mut.Goals as goal

pub returns-in_default : goal.returns-in_default
returns-in_default g c =
    rw (← c.self.view_is) (
      (refl, (λ w. (sym (with_value-none g.K.PartialEq.eq c.args.key.now w _ c.in_default.ensures), refl)), (refl, refl)),
      record { writes_back = tt; value = sym c.in_default.ensures },
    )

pub invariant_of-self-lent : goal.invariant_of-self-lent
invariant_of-self-lent g c = λ w.
    let items = set_is g.K.PartialEq.eq c.args.key.now w w c.in-Some.at c.self.inside.slots.items c.index_mut.result.now c.in-Some.ensures.1
    c.index_mut.ensures.value refl in (
      c.self.invariant.0,
      simp length-set (c.self.invariant.1),
      subst (λ (l : List (Slot _ _)). IsDistinct g.K.PartialEq.eq l) (sym items)
          (IsDistinct-with_value g.K.PartialEq.eq c.args.key.now w c.self.inside.slots.items c.self.invariant.2),
    )

pub returns : goal.returns
returns g c =
    rw (← c.self.view_is) (
      (
        refl,
        (λ w. (
          set_is g.K.PartialEq.eq c.args.key.now w w c.in-Some.at c.self.inside.slots.items c.index_mut.result.now c.in-Some.ensures.1
              c.index_mut.ensures.value refl,
          refl,
        )),
        (refl, refl),
      ),
      record {
        writes_back = tt;
        value = ap (λ s. Some s.value) c.index_mut.ensures.value
            ∙ sym (value_at-IsAt g.K.PartialEq.eq c.args.key.now c.in-Some.at c.self.inside.slots.items c.index_mut.result.now c.in-Some.ensures.1);
      },
    )
