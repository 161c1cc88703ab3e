-- What the first n slots give back.
use Rattle.std.proofs.Common.{◌≡◌, ◌≤◌, length, take}
use Rattle.bac_responder.specs.Kept.{given_back, sum_of}
use Rattle.bac_responder.proofs.keeping.given_back.Given as goal

abbrev pub invariant-loop-n : goal.invariant-loop-n
invariant-loop-n g l =
    record {
      sum : l.octets ≤ sum_of (given_back l.now) (take l.n (g.S.SlotTable.slots l.table));
      ends : l.n-end ≡ length (g.S.SlotTable.slots l.table);
    }
