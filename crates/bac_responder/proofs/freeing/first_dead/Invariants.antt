-- The first of the first n slots.
use Rattle.std.proofs.Common.{◌≡◌, length, take}
use Rattle.bac_slots.specs.Ages.{first_due}
use Rattle.bac_responder.specs.Freeing.{dies}
use Rattle.bac_responder.proofs.freeing.first_dead.Given as goal

abbrev pub invariant-loop-n : goal.invariant-loop-n
invariant-loop-n g l =
    record {
      first : l.first ≡ first_due dies (take l.n (g.S.SlotTable.slots l.table));
      ends : l.n-end ≡ length (g.S.SlotTable.slots l.table);
    }
