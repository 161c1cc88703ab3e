-- What the first n slots in order of keys send.
use Rattle.std.proofs.Common.{◌≡◌, length, take}
use Rattle.bac_slots.specs.Slots.{IsDistinct}
use Rattle.bac_protocol.specs.Server.{ServerTransaction}
use Rattle.bac_transaction.specs.Ends.{from_each, server_tick_sends}
use Rattle.bac_transaction.specs.Sends.{IsSent, Pairwise}
use Rattle.bac_transaction.specs.Views.{code_same_key, settings_view}
use Rattle.bac_transaction.proofs.Telling.{ordered}
use Rattle.bac_responder.proofs.ticking.prepare.Given as goal

abbrev pub invariant-loop-n : goal.invariant-loop-n
invariant-loop-n g l =
    record {
      sends : Pairwise IsSent (from_each (server_tick_sends (settings_view l.settings) l.now) (take l.n (ordered ServerTransaction (g.S.SlotTable.slots l.table))))
          l.sends.items;
      ends : l.n-end ≡ length (g.S.SlotTable.slots l.table);
      distinct : IsDistinct code_same_key (g.S.SlotTable.slots l.table);
    }
