-- One more slot.
use Rattle.std.proofs.Common.{◌∷◌, [], ◌∙◌, ap, sym, subst, List, arith, length, length-append}
use Rattle.bac_slots.specs.declared.slot.Slot.{Slot}
use Rattle.bac_slots.specs.Slots.{IsDistinct}
use Rattle.bac_slots.proofs.Slots.{IsDistinct-push}
use Rattle.bac_slots.proofs.plain_slots.PlainSlotsSlotTable.put.Goals as goal

pub invariant_of-self : goal.invariant_of-self
invariant_of-self g c =
    let x : Slot _ _ = record { key = c.args.key; begin = c.args.begin; value = c.args.value } in
    let items = c.in-Ok.ensures.items in
    let len = ap length items ∙ length-append c.self.inside.slots.items (x ∷ []) in
    let absent = rw (← c.self.view_is) at c.requires in (
      omega (arith, c.push.ensures.capacity, c.self.invariant.0),
      omega (arith, len, c.len.ensures),
      subst (λ (l : List (Slot _ _)). IsDistinct g.K.PartialEq.eq l) (sym items)
          (IsDistinct-push g.K.PartialEq.eq c.self.inside.slots.items x c.self.invariant.2 absent),
    )
