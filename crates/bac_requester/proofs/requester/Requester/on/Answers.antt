-- The turn at the APDU's key.
use Rattle.std.proofs.Common.{ap}
use Rattle.bac_apdu.specs.Views.{apdu_view}
use Rattle.bac_npdu.specs.Views.{peer_view}
use Rattle.bac_protocol.specs.declared.times.TheConstants.{REST}
use Rattle.bac_transaction.specs.Ends.{first_after}
use Rattle.bac_transaction.specs.Views.{settings_view}
use Rattle.bac_requester.specs.Views.{end_of}
use Rattle.bac_requester.proofs.OnApdu.{at_key, none_open_at_key}
use Rattle.bac_requester.proofs.requester.Requester.on.Goals as goal

pub returns-clause-reacts : goal.returns-clause-reacts
returns-clause-reacts g c =
    rw (← c.self.view_is) (at_key (settings_view c.args.settings.now) c.args.now (peer_view c.args.peer.now) (apdu_view c.args.apdu.now)
    (record { peer = peer_view c.args.peer.now; invoke_id = c.invoke_id_of.result })
    (end_of (g.S.SlotTable.slots c.self.inside.aged.table) (g.S.SlotTable.capacity c.self.inside.aged.table) c.self.inside.asked (first_after REST c.self.inside.restart) c.self.inside.first_id) c.requester_on_apdu.result
    (end_of (g.S.SlotTable.slots c.requester_on_apdu.new.aged.table) (g.S.SlotTable.capacity c.requester_on_apdu.new.aged.table) c.self.inside.asked (first_after REST c.self.inside.restart) c.self.inside.first_id)
    (ap (λ i. record { peer = peer_view c.args.peer.now; invoke_id = i }) c.invoke_id_of.ensures)
    (c.requester_on_apdu.ensures.turn c.self.inside.asked (first_after REST c.self.inside.restart) c.self.inside.first_id))

pub returns-clause-none_open : goal.returns-clause-none_open
returns-clause-none_open g c =
    rw (← c.self.view_is) (none_open_at_key (peer_view c.args.peer.now) (apdu_view c.args.apdu.now)
    (record { peer = peer_view c.args.peer.now; invoke_id = c.invoke_id_of.result })
    (end_of (g.S.SlotTable.slots c.self.inside.aged.table) (g.S.SlotTable.capacity c.self.inside.aged.table) c.self.inside.asked (first_after REST c.self.inside.restart) c.self.inside.first_id)
    c.requester_on_apdu.result (ap (λ i. record { peer = peer_view c.args.peer.now; invoke_id = i }) c.invoke_id_of.ensures)
    (c.requester_on_apdu.ensures.none_open c.self.inside.asked (first_after REST c.self.inside.restart) c.self.inside.first_id))
