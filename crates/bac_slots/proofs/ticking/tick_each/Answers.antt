-- One more slot is ticked.
use Rattle.std.proofs.Common.{◌≡◌, ◌+◌, ◌∙◌, ap, Some, slice_get, length, arith}
use Rattle.bac_slots.specs.declared.slot.Slot.{Slot}
use Rattle.bac_slots.specs.Ages.{ticked_in}
use Rattle.bac_slots.proofs.Fronts.{front, front_all, passed, set}
use Rattle.bac_slots.proofs.ticking.tick_each.Goals as goal

-- a tick has nothing to do for the slot, or it does not exist
pub loop-n-preserved-in_default : goal.loop-n-preserved-in_default
loop-n-preserved-in_default g c =
    record {
      slots = passed (ticked_in g.V.Ticks.ticked c.args.settings.now c.args.now) c.loop-n.n _ _ c.loop-n.invariant.slots
          (λ s at. c.ticks.ensures.rests c.args.settings.now c.args.now c.args.now (c.args.now + 1) s.key s.value (omega arith) (omega arith)
          (c.in_default.ensures s at));
      same = c.loop-n.invariant.same;
      ends = c.loop-n.invariant.ends;
      distinct = c.loop-n.invariant.distinct;
    }

pub loop-n-preserved : goal.loop-n-preserved
loop-n-preserved g c =
    let found = c.in-Some.ensures in
    let s : Slot _ _ = record { key = c.in-Some.key; begin = found.0.begin; value = found.0.value } in
    let at : slice_get (g.S.SlotTable.slots c.loop-n.table) c.loop-n.n ≡ Some s =
    found.1 ∙ (λ i. Some (record { key = found.2 i; begin = found.0.begin; value = found.0.value })) in
    record {
      slots = set (ticked_in g.V.Ticks.ticked c.args.settings.now c.args.now) g.K.PartialEq.eq g.met.K.Eq.laws c.loop-n.n _ _ _ s
          c.loop-n.invariant.distinct c.loop-n.invariant.slots at (c.tick_at.ensures.slots s.value);
      same = c.tick_at.ensures.same ∙ c.loop-n.invariant.same;
      ends = c.loop-n.invariant.ends;
      distinct = c.loop-n.invariant.distinct;
    }

pub returns-clause-slots : goal.returns-clause-slots
returns-clause-slots g c =
    let h = ticked_in g.V.Ticks.ticked c.args.settings.now c.args.now in
    let n : c.loop-n.n ≡ length (g.S.SlotTable.slots c.args.table.now) = omega (arith, c.loop-n.invariant.ends) in
    c.loop-n.invariant.slots ∙ ap (λ k. front h k (g.S.SlotTable.slots c.args.table.now)) n ∙ front_all h _
