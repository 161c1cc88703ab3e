-- The endings so far are logged, and those that are left have numbers.
use Rattle.std.proofs.Common.{◌≡◌, ◌+◌, ◌≤◌, ◌++◌, map, length}
use Rattle.std.specs.Vec.Iter.{into_iter_items, into_iter_len}
use Rattle.bac_requester.specs.Views.{ended_view}
use Rattle.bac_world.specs.World.{AreEnded}
use Rattle.bac_network.specs.Entries.{AreNoted}
use Rattle.bac_network.specs.Views.{log_view}
use Rattle.bac_network.proofs.logging.log_endings.Given as goal

abbrev pub invariant-loop-finish : goal.invariant-loop-finish
invariant-loop-finish l =
    record {
      all : l.yielded ++ into_iter_items l.finish-iterator ≡ into_iter_items l.initial.finish-iterator;
      left : into_iter_len l.finish-iterator ≡ length (into_iter_items l.finish-iterator);
      noted : AreNoted l.journal.notes l.node (map ended_view (into_iter_items l.finish-iterator));
      space : length l.log.items + length (into_iter_items l.finish-iterator) ≤ l.log.cap;
      ended : AreEnded l.journal.notes l.node (map ended_view l.yielded) (log_view l.fn.log.items) (log_view l.log.items);
      many : length l.log.items ≡ length l.fn.log.items + length l.yielded;
      room : l.log.cap ≡ l.fn.log.cap;
    }
