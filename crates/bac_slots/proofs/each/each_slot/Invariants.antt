-- The fact is true of each of the first n slots.
use Rattle.std.proofs.Common.{◌≡◌, length, take}
use Rattle.bac_slots.specs.Slots.{EachSlot}
use Rattle.bac_slots.proofs.each.each_slot.Given as goal

abbrev pub invariant-loop-n : goal.invariant-loop-n
invariant-loop-n g l =
    record {
      each : EachSlot (λ s. g.F.SlotFact.Holds s.value) (take l.n (g.S.SlotTable.slots l.table));
      ends : l.n-end ≡ length (g.S.SlotTable.slots l.table);
    }
