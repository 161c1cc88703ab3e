-- All invoke IDs before are held, and the place is that of the next.
use Rattle.std.proofs.Common.{◌≡◌, ◌-◌}
use Rattle.bac_npdu.specs.Views.{peer_view}
use Rattle.bac_slots.specs.Slots.{rank}
use Rattle.bac_transaction.specs.Ends.{is_id_held, least_not}
use Rattle.bac_transaction.specs.Views.{code_key_cmp, slots_view}
use Rattle.bac_requester.proofs.Ids.{key_at}
use Rattle.bac_requester.proofs.asking.least_id_from.Given as goal

abbrev pub invariant-loop-n : goal.invariant-loop-n
invariant-loop-n g l =
    record {
      least : least_not (is_id_held l.now (slots_view (g.S.SlotTable.slots l.table)) (peer_view l.peer)) (256 - l.n) l.n
          ≡ least_not (is_id_held l.now (slots_view (g.S.SlotTable.slots l.table)) (peer_view l.peer)) (256 - l.from) l.from;
      place : l.place ≡ rank code_key_cmp (key_at l.peer l.n) (g.S.SlotTable.slots l.table);
    }
