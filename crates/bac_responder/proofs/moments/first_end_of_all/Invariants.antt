-- The least of the first n slots.
use Rattle.std.proofs.Common.{◌≡◌, length, take}
use Rattle.bac_slots.specs.Ages.{first_due}
use Rattle.bac_responder.specs.Timers.{life_end}
use Rattle.bac_responder.proofs.moments.first_end_of_all.Given as goal

abbrev pub invariant-loop-n : goal.invariant-loop-n
invariant-loop-n g l =
    record {
      first : l.end ≡ first_due life_end (take l.n (g.S.SlotTable.slots l.table));
      ends : l.n-end ≡ length (g.S.SlotTable.slots l.table);
    }
