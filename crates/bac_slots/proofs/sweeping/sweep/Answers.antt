-- One more slot, from the last.
use Rattle.std.proofs.Common.{◌≡◌, ◌-◌, ◌∙◌, arith, rules, slice_get, Some}
use Rattle.bac_slots.specs.declared.slot.Slot.{Slot}
use Rattle.bac_slots.proofs.Swept.{sweep_first, sweep_keeps, sweep_drops}
use Rattle.bac_slots.proofs.sweeping.sweep.Goals as goal

pub loop-n-init : goal.loop-n-init
loop-n-init g c =
    record {
      slots = sweep_first _ _ g.K.PartialEq.eq g.met.K.Eq.laws (λ s. g.P.Test.passes c.args.test.now s.value) c.len-total.result _ c.len-total.ensures.number;
      same = search rules;
    }

pub loop-n-preserved-in_default : goal.loop-n-preserved-in_default
loop-n-preserved-in_default g c =
    record {
      slots = sweep_keeps _ _ g.K.PartialEq.eq g.met.K.Eq.laws (λ s. g.P.Test.passes c.args.test.now s.value) c.loop-n.n _ _ (omega arith)
          c.loop-n.invariant.slots c.in_default.ensures;
      same = c.loop-n.invariant.same;
    }

pub loop-n-preserved : goal.loop-n-preserved
loop-n-preserved g c =
    let found = c.in-Some.ensures in
    let s : Slot _ _ = record { key = c.in-Some.key; begin = found.0.begin; value = found.0.value } in
    let at : slice_get (g.S.SlotTable.slots c.loop-n.table) (c.loop-n.n - 1) ≡ Some s =
    found.1 ∙ (λ i. Some (record { key = found.2 i; begin = found.0.begin; value = found.0.value })) in
    record {
      slots = sweep_drops _ _ g.K.PartialEq.eq g.met.K.Eq.laws (λ s. g.P.Test.passes c.args.test.now s.value) c.loop-n.n _ _ _ s (omega arith)
          c.len-total.ensures.distinct c.loop-n.invariant.slots at found.3 c.take_out.ensures.slots;
      same = c.take_out.ensures.same ∙ c.loop-n.invariant.same;
    }
