-- Of the first n slots, those that are held, and these are not too many.
use Rattle.std.proofs.Common.{◌≡◌, ◌≤◌, count_by, length, take}
use Rattle.bac_responder.specs.Sharing.{is_held}
use Rattle.bac_responder.proofs.sharing.holds_at_most.Given as goal

abbrev pub invariant-loop-n : goal.invariant-loop-n
invariant-loop-n g l =
    record {
      held : l.held ≡ count_by (is_held l.now l.link) (take l.n (g.S.SlotTable.slots l.table));
      few : l.held ≤ l.most;
      ends : l.n-end ≡ length (g.S.SlotTable.slots l.table);
    }
