-- The first slots pass, and a sweep of all slots now leaves what it would have left at first.
use Rattle.std.proofs.Common.{◌≡◌, ◌-◌, ◌≤◌, filter, length}
use Rattle.bac_slots.specs.Slots.{Ascends, YoungPass}
use Rattle.bac_slots.proofs.SlotAges.{PassBefore}
use Rattle.bac_slots.proofs.sweeping.sweep_oldest.Given as goal

abbrev pub invariant-loop-kept : goal.invariant-loop-kept
invariant-loop-kept g l =
    record {
      left : filter (λ s. g.P.Test.passes l.test s.value) (g.S.SlotTable.slots l.table)
          ≡ filter (λ s. g.P.Test.passes l.test s.value) (g.S.SlotTable.slots l.fn.table);
      passed : PassBefore (g.P.Test.passes l.test) l.kept (g.S.SlotTable.slots l.table);
      within : l.kept ≤ length (g.S.SlotTable.slots l.table);
      ascending : Ascends (g.S.SlotTable.slots l.table);
      young : YoungPass (g.P.Test.passes l.test) l.bound (g.S.SlotTable.slots l.table);
      same : g.S.SlotTable.capacity l.table ≡ g.S.SlotTable.capacity l.fn.table;
    }

abbrev pub decreases-loop-kept : goal.decreases-loop-kept
decreases-loop-kept g l = length (g.S.SlotTable.slots l.table) - l.kept
