-- One more slot's sends.
use Rattle.std.proofs.Common.{◌≡◌, Some, None, List, length, subst, arith}
use Rattle.bac_slots.specs.declared.slot.Slot.{Slot}
use Rattle.bac_protocol.specs.Server.{ServerTransaction}
use Rattle.bac_transaction.specs.Ends.{ServerSlot, from_each, server_tick_sends}
use Rattle.bac_transaction.specs.Sends.{IsSent, Pairwise}
use Rattle.bac_transaction.specs.Views.{settings_view}
use Rattle.bac_transaction.specs.declared.peer_key.PeerKey.{PeerKey}
use Rattle.bac_transaction.proofs.Telling.{nth_slot, take_ordered, told_more, told_past}
use Rattle.bac_responder.proofs.ticking.prepare.Goals as goal

pub loop-n-preserved-in_default : goal.loop-n-preserved-in_default
loop-n-preserved-in_default g c =
    let at = nth_slot ServerTransaction c.slots_in_order.ensures.nth _ c.loop-n.n None c.loop-n.invariant.distinct c.in_default.ensures in
    record {
      sends = told_past IsSent (server_tick_sends (settings_view c.args.settings.now) c.args.now) c.loop-n.n _ _ at c.loop-n.invariant.sends;
      ends = c.loop-n.invariant.ends;
      distinct = c.loop-n.invariant.distinct;
    }

pub loop-n-preserved : goal.loop-n-preserved
loop-n-preserved g c =
    let s : Slot PeerKey ServerTransaction = record { key = c.in-Some.key; begin = c.in-Some.field-0-1; value = c.in-Some.entry.now } in
    let at = nth_slot ServerTransaction c.slots_in_order.ensures.nth _ c.loop-n.n (Some s) c.loop-n.invariant.distinct c.in-Some.ensures in
    record {
      sends = told_more IsSent (server_tick_sends (settings_view c.args.settings.now) c.args.now) c.loop-n.n _ _ _ _ _ at c.loop-n.invariant.sends
          (c.in_ok-more.ensures c.in-Some.field-0-1) c.in_ok-append.ensures.items;
      ends = c.loop-n.invariant.ends;
      distinct = c.loop-n.invariant.distinct;
    }

pub returns : goal.returns
returns g c =
    let n : c.loop-n.n ≡ length (g.S.SlotTable.slots c.args.table.now) = omega (arith, c.loop-n.invariant.ends) in
    let all = take_ordered ServerTransaction (g.S.SlotTable.slots c.args.table.now) c.loop-n.n
    (c.slots_in_order.ensures.length (g.S.SlotTable.slots c.args.table.now)) n in
    subst (λ (l : List ServerSlot). Pairwise IsSent (from_each (server_tick_sends (settings_view c.args.settings.now) c.args.now) l) c.loop-n.sends.items) all
    c.loop-n.invariant.sends
