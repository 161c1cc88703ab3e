-- The ask of the table is that of the end: how it is refused, and the end after an accepted one.
use Rattle.std.proofs.Common.{ℕ, Option, ◌<◌, ◌+◌, ◌∙◌, ap, refl, sym, subst, arith}
use Rattle.bac_apdu.specs.Views.{limits_view}
use Rattle.bac_npdu.specs.Views.{peer_view}
use Rattle.bac_service.specs.Requests.{SpellsRequest}
use Rattle.bac_service.specs.Spellings.{request_spelling}
use Rattle.bac_service.specs.Values.{Request, choice_of}
use Rattle.bac_service.specs.Views.{request_view}
use Rattle.bac_protocol.specs.Client.{Ask, ClientTransaction}
use Rattle.bac_protocol.specs.Context.{Settings}
use Rattle.bac_protocol.specs.declared.times.TheConstants.{REST}
use Rattle.bac_transaction.specs.Ends.{AskOutcome, ClientEnd, context_of, first_after, is_id_held, requester_ask}
use Rattle.bac_transaction.specs.Ends.TransactionSlot.{Open}
use Rattle.bac_transaction.specs.Keys.{PeerKey}
use Rattle.bac_transaction.specs.Views.{settings_view, slots_view}
use Rattle.bac_requester.specs.Fits.{IsWayFor}
use Rattle.bac_requester.specs.Reactions.{Accepts, MayBegin}
use Rattle.bac_requester.specs.Views.{end_of}
use Rattle.bac_requester.proofs.Accepting.{asked_by, can_go, waiting, no_id, no_slot, may_begin, free_around, has_room, has_number, accepted, entered, entered_end}
use Rattle.bac_requester.proofs.Accepting.{not_alive}
use Rattle.bac_requester.proofs.Aging.{asked_first}
use Rattle.bac_requester.proofs.requester.Requester.ask.Goals as goal

abbrev Spelled : Request → Type 0
Spelled r = SpellsRequest (choice_of r) r (request_spelling r)

abbrev pub from_of : Option ℕ → ℕ
from_of restart = first_after REST restart

pub returns-in_default-clause-spelled : goal.returns-in_default-clause-spelled
returns-in_default-clause-spelled g c = subst Spelled c.as_request-request.ensures c.request_len.ensures.spelled

pub returns-then-has_no_slot-clause-spelled : goal.returns-then-has_no_slot-clause-spelled
returns-then-has_no_slot-clause-spelled g c = subst Spelled c.as_request-request.ensures c.request_len.ensures.spelled

pub returns-in_default-begin-clause-spelled : goal.returns-in_default-begin-clause-spelled
returns-in_default-begin-clause-spelled g c = subst Spelled c.as_request-request.ensures c.request_len.ensures.spelled

pub returns-clause-spelled : goal.returns-clause-spelled
returns-clause-spelled g c = subst Spelled c.as_request-request.ensures c.request_len.ensures.spelled

pub returns-then-is_waiting-clause-asks : goal.returns-then-is_waiting-clause-asks
returns-then-is_waiting-clause-asks g c =
    let s : Settings = settings_view c.args.settings.now in
    let from : ℕ = from_of c.self.inside.restart in
    let e : ClientEnd = end_of (g.S.SlotTable.slots c.self.inside.aged.table) (g.S.SlotTable.capacity c.self.inside.aged.table) c.self.inside.asked from
    c.self.inside.first_id in
    let q : Request = request_view c.as_request-request.result in
    let ask : Ask = asked_by c.args.now q c.in-Ok.way in
    let is = ap (λ (r : Request). requester_ask s c.args.now (peer_view c.args.peer.now) (limits_view c.args.limits.now) (choice_of r) (request_spelling r) e)
    (sym c.as_request-request.ensures) ∙ can_go s c.args.now (peer_view c.args.peer.now) (choice_of q) (request_spelling q) e _ c.of.result c.in-Ok.way
    (c.of.ensures.is (request_spelling q) (sym c.request_len.ensures.len)) c.in-Ok.is in
    rw (← c.self.view_is) (is ∙ waiting s c.args.now (peer_view c.args.peer.now) ask e (sym c.is_waiting.ensures ∙ c.if-is_waiting.true), refl)

pub returns-in_default-clause-asks : goal.returns-in_default-clause-asks
returns-in_default-clause-asks g c =
    let s : Settings = settings_view c.args.settings.now in
    let from : ℕ = from_of c.self.inside.restart in
    let e : ClientEnd = end_of (g.S.SlotTable.slots c.self.inside.aged.table) (g.S.SlotTable.capacity c.self.inside.aged.table) c.self.inside.asked from
    c.self.inside.first_id in
    let q : Request = request_view c.as_request-request.result in
    let ask : Ask = asked_by c.args.now q c.in-Ok.way in
    let is = ap (λ (r : Request). requester_ask s c.args.now (peer_view c.args.peer.now) (limits_view c.args.limits.now) (choice_of r) (request_spelling r) e)
    (sym c.as_request-request.ensures) ∙ can_go s c.args.now (peer_view c.args.peer.now) (choice_of q) (request_spelling q) e _ c.of.result c.in-Ok.way
    (c.of.ensures.is (request_spelling q) (sym c.request_len.ensures.len)) c.in-Ok.is in
    let awake = sym c.is_waiting.ensures ∙ c.if-is_waiting.false in
    rw (← c.self.view_is) (is ∙ no_id s c.args.now (peer_view c.args.peer.now) ask e awake c.free_id.result c.free_id.ensures c.in_default.is, refl)

pub returns-then-has_no_slot-clause-asks : goal.returns-then-has_no_slot-clause-asks
returns-then-has_no_slot-clause-asks g c =
    let s : Settings = settings_view c.args.settings.now in
    let from : ℕ = from_of c.self.inside.restart in
    let e : ClientEnd = end_of (g.S.SlotTable.slots c.self.inside.aged.table) (g.S.SlotTable.capacity c.self.inside.aged.table) c.self.inside.asked from
    c.self.inside.first_id in
    let q : Request = request_view c.as_request-request.result in
    let ask : Ask = asked_by c.args.now q c.in-Ok.way in
    let is = ap (λ (r : Request). requester_ask s c.args.now (peer_view c.args.peer.now) (limits_view c.args.limits.now) (choice_of r) (request_spelling r) e)
    (sym c.as_request-request.ensures) ∙ can_go s c.args.now (peer_view c.args.peer.now) (choice_of q) (request_spelling q) e _ c.of.result c.in-Ok.way
    (c.of.ensures.is (request_spelling q) (sym c.request_len.ensures.len)) c.in-Ok.is in
    let awake = sym c.is_waiting.ensures ∙ c.if-is_waiting.false in
    rw (← c.self.view_is) (
      is ∙ no_slot s c.args.now (peer_view c.args.peer.now) ask e awake c.free_id.result c.in-Some.invoke_id c.free_id.ensures c.in-Some.is
          (sym (c.has_no_slot.ensures from c.self.inside.first_id) ∙ c.if-has_no_slot.true),
      refl,
    )

pub begin-requires : goal.begin-requires
begin-requires g c = subst (λ (n : ℕ). IsWayFor c.in-Ok.way n) c.request_len.ensures.len c.in-Ok.ensures.fits

pub returns-in_default-begin-clause-asks : goal.returns-in_default-begin-clause-asks
returns-in_default-begin-clause-asks g c =
    let s : Settings = settings_view c.args.settings.now in
    let from : ℕ = from_of c.self.inside.restart in
    let e : ClientEnd = end_of (g.S.SlotTable.slots c.self.inside.aged.table) (g.S.SlotTable.capacity c.self.inside.aged.table) c.self.inside.asked from
    c.self.inside.first_id in
    let q : Request = request_view c.as_request-request.result in
    let ask : Ask = asked_by c.args.now q c.in-Ok.way in
    let is = ap (λ (r : Request). requester_ask s c.args.now (peer_view c.args.peer.now) (limits_view c.args.limits.now) (choice_of r) (request_spelling r) e)
    (sym c.as_request-request.ensures) ∙ can_go s c.args.now (peer_view c.args.peer.now) (choice_of q) (request_spelling q) e _ c.of.result c.in-Ok.way
    (c.of.ensures.is (request_spelling q) (sym c.request_len.ensures.len)) c.in-Ok.is in
    let awake = sym c.is_waiting.ensures ∙ c.if-is_waiting.false in
    rw (← c.self.view_is) (
      subst MayBegin (sym is) (may_begin s c.args.now (peer_view c.args.peer.now) ask e awake c.free_id.result c.in-Some.invoke_id
          c.free_id.ensures c.in-Some.is (sym (c.has_no_slot.ensures from c.self.inside.first_id) ∙ c.if-has_no_slot.false)),
      refl,
    )

pub enter-requires-clause-begins : goal.enter-requires-clause-begins
enter-requires-clause-begins g c =
    ap (λ (t : ClientTransaction). t.ask.first) c.in-Ok-begin.ensures.ticket
    ∙ asked_first (context_of (settings_view c.args.settings.now) c.args.now (record { peer = peer_view c.args.peer.now; invoke_id = c.in-Some.invoke_id }))
    (asked_by c.args.now (request_view c.as_request-request.result) c.in-Ok.way)

pub enter-requires-clause-absent : goal.enter-requires-clause-absent
enter-requires-clause-absent g c =
    not_alive c.args.now (record { peer = c.args.peer.now; invoke_id = c.in-Some.invoke_id }) (g.S.SlotTable.slots c.self.inside.aged.table)
    (free_around (is_id_held c.args.now (slots_view (g.S.SlotTable.slots c.self.inside.aged.table)) (peer_view c.args.peer.now)) c.self.inside.first_id
    c.in-Some.invoke_id (sym c.in-Some.is ∙ c.free_id.ensures))

pub enter-requires-clause-room : goal.enter-requires-clause-room
enter-requires-clause-room g c =
    has_room c.args.now (g.S.SlotTable.slots c.self.inside.aged.table) (g.S.SlotTable.capacity c.self.inside.aged.table) c.self.inside.asked 0 0
    (sym (c.has_no_slot.ensures 0 0) ∙ c.if-has_no_slot.false)

pub overflow_add-self : goal.overflow_add-self
overflow_add-self g c =
    let lt : c.self.inside.asked < 18446744073709551615 =
    has_number c.args.now (end_of (g.S.SlotTable.slots c.self.inside.aged.table) (g.S.SlotTable.capacity c.self.inside.aged.table) c.self.inside.asked 0 0)
    (sym (c.has_no_slot.ensures 0 0) ∙ c.if-has_no_slot.false) in
    omega (arith, lt)

pub returns-clause-asks : goal.returns-clause-asks
returns-clause-asks g c =
    let s : Settings = settings_view c.args.settings.now in
    let from : ℕ = from_of c.self.inside.restart in
    let e : ClientEnd = end_of (g.S.SlotTable.slots c.self.inside.aged.table) (g.S.SlotTable.capacity c.self.inside.aged.table) c.self.inside.asked from
    c.self.inside.first_id in
    let q : Request = request_view c.as_request-request.result in
    let ask : Ask = asked_by c.args.now q c.in-Ok.way in
    let is = ap (λ (r : Request). requester_ask s c.args.now (peer_view c.args.peer.now) (limits_view c.args.limits.now) (choice_of r) (request_spelling r) e)
    (sym c.as_request-request.ensures) ∙ can_go s c.args.now (peer_view c.args.peer.now) (choice_of q) (request_spelling q) e _ c.of.result c.in-Ok.way
    (c.of.ensures.is (request_spelling q) (sym c.request_len.ensures.len)) c.in-Ok.is in
    let awake = sym c.is_waiting.ensures ∙ c.if-is_waiting.false in
    let key : PeerKey = record { peer = peer_view c.args.peer.now; invoke_id = c.in-Some.invoke_id } in
    let goes = accepted s c.args.now (peer_view c.args.peer.now) ask e awake c.free_id.result c.in-Some.invoke_id c.free_id.ensures
    c.in-Some.is (sym (c.has_no_slot.ensures from c.self.inside.first_id) ∙ c.if-has_no_slot.false) in
    rw (← c.self.view_is) (subst (λ (o : AskOutcome). Accepts o
    (end_of (g.S.SlotTable.slots c.enter.new.aged.table) (g.S.SlotTable.capacity c.enter.new.aged.table) (c.self.inside.asked + 1) from c.self.inside.first_id)
    (record { ticket = c.self.inside.asked; invoke_id = c.in-Some.invoke_id; sends = c.in-Ok-begin.sends })) (sym (is ∙ goes)) (record {
      end = entered_end s c.args.now key ask (slots_view (g.S.SlotTable.slots c.self.inside.aged.table)) _
          (g.S.SlotTable.capacity c.self.inside.aged.table) _ c.self.inside.asked from c.self.inside.first_id c.in-Ok-begin.transaction
          c.in-Ok-begin.ensures.ticket (entered c.args.now (record { peer = c.args.peer.now; invoke_id = c.in-Some.invoke_id })
          (record { number = c.self.inside.asked; held = Open c.in-Ok-begin.transaction }) (g.S.SlotTable.slots c.self.inside.aged.table) _
          c.enter.ensures.slots) c.enter.ensures.same;
      ticket = refl;
      invoke_id = refl;
      sends = c.in-Ok-begin.ensures.sends;
    }))
