-- What the first n slots in order of keys send and end.
use Rattle.std.proofs.Common.{◌≡◌, length, map, take}
use Rattle.bac_slots.specs.Slots.{IsDistinct}
use Rattle.bac_transaction.specs.Ends.{Client, client_tick_sends, client_tick_ends, from_each}
use Rattle.bac_transaction.specs.Meanings.{IsEndedView}
use Rattle.bac_transaction.specs.Sends.{IsSent, Pairwise}
use Rattle.bac_transaction.specs.Views.{code_same_key, settings_view}
use Rattle.bac_requester.specs.Views.{ended_view}
use Rattle.bac_transaction.proofs.Telling.{ordered}
use Rattle.bac_requester.proofs.requester_tick.prepare.Given as goal

abbrev pub invariant-loop-n : goal.invariant-loop-n
invariant-loop-n g l =
    record {
      sends : Pairwise IsSent (from_each (client_tick_sends (settings_view l.settings) l.now) (take l.n (ordered Client
          (g.S.SlotTable.slots l.table)))) l.reaction.sends.items;
      ended : Pairwise IsEndedView (from_each (client_tick_ends (settings_view l.settings) l.now) (take l.n (ordered Client (g.S.SlotTable.slots l.table))))
          (map ended_view l.reaction.ended.items);
      ends : l.n-end ≡ length (g.S.SlotTable.slots l.table);
      distinct : IsDistinct code_same_key (g.S.SlotTable.slots l.table);
    }
