-- The slots before the n-th are unchanged, and of the others those remain that pass.
use Rattle.std.proofs.Common.{◌≡◌}
use Rattle.bac_slots.proofs.Swept.{back}
use Rattle.bac_slots.proofs.sweeping.sweep.Given as goal

abbrev pub invariant-loop-n : goal.invariant-loop-n
invariant-loop-n g l =
    record {
      slots : g.S.SlotTable.slots l.table ≡ back (λ s. g.P.Test.passes l.test s.value) l.n (g.S.SlotTable.slots l.fn.table);
      same : g.S.SlotTable.capacity l.table ≡ g.S.SlotTable.capacity l.fn.table;
    }
