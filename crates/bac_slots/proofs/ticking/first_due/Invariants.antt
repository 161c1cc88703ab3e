-- None of the first n slots is due before.
use Rattle.std.proofs.Common.{◌≡◌, length, take}
use Rattle.bac_slots.specs.Ages.{AreQuiet, first_due}
use Rattle.bac_slots.proofs.ticking.first_due.Given as goal

abbrev pub invariant-loop-n : goal.invariant-loop-n
invariant-loop-n g l =
    record {
      quiet : AreQuiet g.V.Aged.IsQuiet l.from l.due (take l.n (g.S.SlotTable.slots l.table));
      due : l.due ≡ first_due (g.V.Aged.due_of l.from) (take l.n (g.S.SlotTable.slots l.table));
      ends : l.n-end ≡ length (g.S.SlotTable.slots l.table);
    }
