-- The sum of the first n slots.
use Rattle.std.proofs.Common.{◌≡◌, length, take}
use Rattle.bac_responder.specs.Kept.{counted, sum_of}
use Rattle.bac_responder.proofs.keeping.count_octets.Given as goal

abbrev pub invariant-loop-n : goal.invariant-loop-n
invariant-loop-n g l =
    record {
      sum : l.octets ≡ sum_of (counted l.only_live l.now) (take l.n (g.S.SlotTable.slots l.table));
      ends : l.n-end ≡ length (g.S.SlotTable.slots l.table);
    }
