-- One more slot's sends and ends.
use Rattle.std.proofs.Common.{◌≡◌, ◌++◌, Some, None, List, map, length, subst, arith}
use Rattle.std.specs.Option.{option_map}
use Rattle.bac_slots.specs.declared.slot.Slot.{Slot}
use Rattle.bac_transaction.specs.Ends.{Client, ClientSlot, client_tick_sends, client_tick_ends, from_each}
use Rattle.bac_transaction.specs.Meanings.{IsEndedView}
use Rattle.bac_transaction.specs.Sends.{IsSent, Pairwise}
use Rattle.bac_transaction.specs.Views.{settings_view}
use Rattle.bac_transaction.specs.declared.peer_key.PeerKey.{PeerKey}
use Rattle.bac_requester.specs.Reactions.{endings_with}
use Rattle.bac_requester.specs.TransactionViews.{ending_view}
use Rattle.bac_requester.specs.Views.{ended_view}
use Rattle.bac_transaction.proofs.Telling.{nth_slot, told_more, told_past, take_ordered}
use Rattle.bac_requester.proofs.requester_tick.prepare.Goals as goal

pub loop-n-preserved-in_default : goal.loop-n-preserved-in_default
loop-n-preserved-in_default g c =
    let at = nth_slot Client c.slots_in_order.ensures.nth _ c.loop-n.n None c.loop-n.invariant.distinct c.in_default.ensures in
    record {
      sends = told_past IsSent (client_tick_sends (settings_view c.args.settings.now) c.args.now) c.loop-n.n _ _ at c.loop-n.invariant.sends;
      ended = told_past IsEndedView (client_tick_ends (settings_view c.args.settings.now) c.args.now) c.loop-n.n _ _ at c.loop-n.invariant.ended;
      ends = c.loop-n.invariant.ends;
      distinct = c.loop-n.invariant.distinct;
    }

pub loop-n-preserved : goal.loop-n-preserved
loop-n-preserved g c =
    let s : Slot PeerKey Client = record { key = c.in-Some.key; begin = c.in-Some.field-0-1; value = c.in-Some.client.now } in
    let at = nth_slot Client c.slots_in_order.ensures.nth _ c.loop-n.n (Some s) c.loop-n.invariant.distinct c.in-Some.ensures in
    let told = c.in_ok-transition.ensures c.in-Some.field-0-1 in
    let ended =
    subst (λ (v : Client). map ended_view c.append.new.reaction.ended.items
    ≡ map ended_view c.loop-n.reaction.ended.items ++ endings_with v.number (option_map ending_view c.in_ok-transition.transition.ending)) c.client.view_is
    c.in_ok-append.ensures.ended in
    record {
      sends = told_more IsSent (client_tick_sends (settings_view c.args.settings.now) c.args.now) c.loop-n.n _ _ _ _ _ at c.loop-n.invariant.sends told.sends
          c.in_ok-append.ensures.sends;
      ended = told_more IsEndedView (client_tick_ends (settings_view c.args.settings.now) c.args.now) c.loop-n.n _ _ _ _ _ at c.loop-n.invariant.ended
          told.ended ended;
      ends = c.loop-n.invariant.ends;
      distinct = c.loop-n.invariant.distinct;
    }

pub returns : goal.returns
returns g c =
    let n : c.loop-n.n ≡ length (g.S.SlotTable.slots c.args.table.now) = omega (arith, c.loop-n.invariant.ends) in
    let all = take_ordered Client (g.S.SlotTable.slots c.args.table.now) c.loop-n.n (c.slots_in_order.ensures.length (g.S.SlotTable.slots c.args.table.now)) n in
    record {
      sends = subst (λ (l : List ClientSlot). Pairwise IsSent (from_each (client_tick_sends
          (settings_view c.args.settings.now) c.args.now) l) c.loop-n.reaction.sends.items) all c.loop-n.invariant.sends;
      ended = subst (λ (l : List ClientSlot). Pairwise IsEndedView (from_each (client_tick_ends (settings_view c.args.settings.now) c.args.now) l)
          (map ended_view c.loop-n.reaction.ended.items)) all c.loop-n.invariant.ended;
    }
