-- The datagrams so far have become copies, and those that are left can.
use Rattle.std.proofs.Common.{◌≡◌, ◌+◌, ◌≤◌, ◌++◌, List, map, length}
use Rattle.std.specs.Vec.Iter.{into_iter_items, into_iter_len}
use Rattle.bac_world.specs.Node.{Node}
use Rattle.bac_world.specs.World.{Note}
use Rattle.bac_journal.specs.Growing.{BecomeCopies, CanGo}
use Rattle.bac_journal.specs.Journals.{room_of}
use Rattle.bac_journal.specs.Records.{IsKept}
use Rattle.bac_journal.specs.Views.{copy_view, AreLinks}
use Rattle.bac_journal.proofs.sending.send_all.Given as goal

abbrev pub invariant-loop-datagram : goal.invariant-loop-datagram
invariant-loop-datagram l =
    record {
      all : l.yielded ++ into_iter_items l.datagram-iterator ≡ into_iter_items l.initial.datagram-iterator;
      left : into_iter_len l.datagram-iterator ≡ length (into_iter_items l.datagram-iterator);
      can : (notes : List Note) → CanGo l.links notes l.now l.sender (into_iter_items l.initial.datagram-iterator)
          → CanGo l.links notes l.now l.sender (into_iter_items l.datagram-iterator);
      space : length l.copies.items + length (into_iter_items l.datagram-iterator) ≤ l.copies.cap;
      copies : (nodes : List Node) → AreLinks nodes l.links
          → BecomeCopies nodes l.now l.sender l.yielded (map copy_view l.fn.copies.items) (map copy_view l.copies.items);
      kept : (notes : List Note) → IsKept l.fn.rows l.fn.copies.items notes → IsKept l.rows l.copies.items notes;
      nodes : length l.rows ≡ length l.fn.rows;
      many : length l.copies.items ≤ length l.fn.copies.items + length l.yielded;
      room : l.copies.cap ≡ l.fn.copies.cap;
      rooms : map room_of l.rows ≡ map room_of l.fn.rows;
    }
