-- One more slot.
use Rattle.bac_slots.proofs.Fronts.{each_next}
use Rattle.bac_slots.proofs.each.each_slot.Goals as goal

pub loop-n-preserved : goal.loop-n-preserved
loop-n-preserved g c =
    record {
      each = each_next (λ s. g.F.SlotFact.Holds s.value) (λ s. g.F.SlotFact.Holds s.value) (λ s. g.F.SlotFact.Holds s.value) c.loop-n.n
          (g.S.SlotTable.slots c.args.table.now) (λ s h. h) (λ s h. h) c.loop-n.invariant.each c.holds_at.ensures;
      ends = c.loop-n.invariant.ends;
    }
