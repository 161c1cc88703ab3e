-- The end of the ticket is that among those that are left.
use Rattle.std.proofs.Common.{◌≡◌, map, length}
use Rattle.std.specs.Vec.Iter.{into_iter_items, into_iter_len}
use Rattle.bac_requester.specs.Views.{ended_view}
use Rattle.bac_driver.specs.Asking.{ending_of}
use Rattle.bac_driver.proofs.endings.ending_among.Given as goal

abbrev pub invariant-loop-finish : goal.invariant-loop-finish
invariant-loop-finish l =
    record {
      left : into_iter_len l.finish-iterator ≡ length (into_iter_items l.finish-iterator);
      same : ending_of l.ticket (map ended_view l.fn.finishes.items) ≡ ending_of l.ticket (map ended_view (into_iter_items l.finish-iterator));
    }
