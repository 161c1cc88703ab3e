-- There is room, or it needs none.
use Rattle.std.proofs.Common.{◌∙◌, List, sym}
use Rattle.bac_apdu.specs.Views.{apdu_view}
use Rattle.bac_npdu.specs.Views.{peer_view}
use Rattle.bac_slots.specs.declared.slot.Slot.{Slot}
use Rattle.bac_protocol.specs.Server.{ServerTransaction}
use Rattle.bac_transaction.specs.declared.peer_key.PeerKey.{PeerKey}
use Rattle.bac_responder.proofs.KeptWithin.{counted_within, no_more, room_for, room_instead}
use Rattle.bac_responder.proofs.responder.Responder.has_room_for.Goals as goal

pub returns-in_default-clause-within : goal.returns-in_default-clause-within
returns-in_default-clause-within g c =
    rw (← c.self.view_is) (λ yes. no_more c.args.now (peer_view c.args.key.now.peer) (apdu_view c.args.apdu.now) c.args.room
    (g.S.SlotTable.slots c.self.inside.aged.table) (g.S.SlotTable.capacity c.self.inside.aged.table) c.self.inside.restart c.len-entries.ensures.distinct
    c.in_default.ensures)

pub returns-then-fits-clause-within : goal.returns-then-fits-clause-within
returns-then-fits-clause-within g c =
    rw (← c.self.view_is) (λ yes. room_for c.args.now (peer_view c.args.key.now.peer) (apdu_view c.args.apdu.now) c.args.room
    (g.S.SlotTable.slots c.self.inside.aged.table) (g.S.SlotTable.capacity c.self.inside.aged.table) c.self.inside.restart c.len-entries.ensures.distinct
    c.self.inside.kept c.in-Some.len c.self.invariant.1 c.in-Some.ensures (c.fits.ensures.0 c.if-fits.true))

pub invariant_of-self : goal.invariant_of-self
invariant_of-self g c =
    (c.self.invariant.0, counted_within c.args.now (g.S.SlotTable.slots c.self.inside.aged.table) c.count_octets-self-inside.result c.count_octets-self-inside.ensures)

pub returns-then-fits-2-clause-within : goal.returns-then-fits-2-clause-within
returns-then-fits-2-clause-within g c =
    let counted = counted_within c.args.now (g.S.SlotTable.slots c.self.inside.aged.table) c.count_octets-self-inside.result c.count_octets-self-inside.ensures in
    rw (← c.self.view_is) (λ yes. room_for c.args.now (peer_view c.args.key.now.peer) (apdu_view c.args.apdu.now) c.args.room
    (g.S.SlotTable.slots c.self.inside.aged.table) (g.S.SlotTable.capacity c.self.inside.aged.table) c.self.inside.restart c.len-entries.ensures.distinct
    c.count_octets-self-inside.result c.in-Some.len counted c.in-Some.ensures (c.fits-2.ensures.0 c.if-fits-2.true))

pub invariant_of-self-then-fits-3 : goal.invariant_of-self-then-fits-3
invariant_of-self-then-fits-3 g c =
    (c.self.invariant.0, counted_within c.args.now (g.S.SlotTable.slots c.self.inside.aged.table) c.count_octets-self-inside.result c.count_octets-self-inside.ensures)

pub returns-then-fits-3-clause-within : goal.returns-then-fits-3-clause-within
returns-then-fits-3-clause-within g c =
    let slots : List (Slot PeerKey ServerTransaction) = g.S.SlotTable.slots c.self.inside.aged.table in
    rw (← c.self.view_is) (λ yes. room_instead c.args.now (peer_view c.args.key.now.peer) (apdu_view c.args.apdu.now) c.args.room
    slots (g.S.SlotTable.capacity c.self.inside.aged.table) c.self.inside.restart c.len-entries.ensures.distinct c.args.key.now c.requires
    (sym c.is_none_live.ensures ∙ c.if-is_none_live.true) c.count_octets.result c.in-Some.len c.count_octets.ensures c.in-Some.ensures
    (c.fits-then-is_none_live.ensures.0 c.if-fits-3.true))

pub invariant_of-self-2 : goal.invariant_of-self-2
invariant_of-self-2 g c =
    (c.self.invariant.0, counted_within c.args.now (g.S.SlotTable.slots c.self.inside.aged.table) c.count_octets-self-inside.result c.count_octets-self-inside.ensures)
