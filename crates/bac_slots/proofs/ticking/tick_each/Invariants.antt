-- The first n slots are ticked.
use Rattle.std.proofs.Common.{◌≡◌, length}
use Rattle.bac_slots.specs.Slots.{IsDistinct}
use Rattle.bac_slots.specs.Ages.{ticked_in}
use Rattle.bac_slots.proofs.Fronts.{front}
use Rattle.bac_slots.proofs.ticking.tick_each.Given as goal

abbrev pub invariant-loop-n : goal.invariant-loop-n
invariant-loop-n g l =
    record {
      slots : g.S.SlotTable.slots l.table ≡ front (ticked_in g.V.Ticks.ticked l.settings l.now) l.n (g.S.SlotTable.slots l.fn.table);
      same : g.S.SlotTable.capacity l.table ≡ g.S.SlotTable.capacity l.fn.table;
      ends : l.n-end ≡ length (g.S.SlotTable.slots l.fn.table);
      distinct : IsDistinct g.K.PartialEq.eq (g.S.SlotTable.slots l.fn.table);
    }
