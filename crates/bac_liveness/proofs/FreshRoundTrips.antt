-- One round trip at a server of fresh reads suffices, in every world.
use Rattle.std.proofs.Common.{◌≡◌, ◌⊎◌, ℕ, ◌-◌, ◌≤◌, Bool, true, false, List, [], ◌∷◌, ◌++◌, length, Option, Some, None, slice_get, refl, sym, ap, subst, inl, inr, ◌∙◌}
use Rattle.std.proofs.Common.{if◌then◌else◌, arith}
use Rattle.std.proofs.lemmas.Bool.Decides.{nat_tests}
use Rattle.bac_apdu.specs.Apdu.{Apdu, Limits}
use Rattle.bac_apdu.specs.Spelling.{SpellsApdu, is_confirmed_request}
use Rattle.bac_npdu.specs.Datagram.{Means, IsFrameTo}
use Rattle.bac_npdu.specs.Peers.{PeerView}
use Rattle.bac_npdu.proofs.Datagrams.{frame_means}
use Rattle.bac_service.specs.Replies as plain
use Rattle.bac_service.specs.Requests.{SpellsRequest}
use Rattle.bac_service.specs.Services.{reads_reply}
use Rattle.bac_service.specs.Values.{Request, choice_of}
use Rattle.bac_service.proofs.OnlySpelling.{one_request}
use Rattle.bac_service.proofs.Wholes.{request_again}
use Rattle.bac_segment.specs.Pieces.{join}
use Rattle.bac_segment.specs.Window.{outgoing}
use Rattle.bac_store.specs.Replies.{reply_to}
use Rattle.bac_protocol.specs.declared.times.TheConstants.{DEADLINE}
use Rattle.bac_protocol.specs.Context.{Context}
use Rattle.bac_protocol.specs.Service as machine
use Rattle.bac_protocol.specs.Service.{Octets}
use Rattle.bac_protocol.specs.Service.Outcome.{Replies}
use Rattle.bac_protocol.specs.Straight.{KindFits}
use Rattle.bac_protocol.specs.Wire.{is_from_client}
use Rattle.bac_protocol.specs.Client as client
use Rattle.bac_protocol.specs.Client.{Ask, ClientTransaction, Reaction, is_expired, request_apdu}
use Rattle.bac_protocol.specs.Claims as claims
use Rattle.bac_protocol.specs.Pace.{IsTimely}
use Rattle.bac_protocol.specs.Reuse.{reusing_on_apdu}
use Rattle.bac_protocol.specs.Server as server
use Rattle.bac_protocol.specs.Server.{Effect, reply_apdu}
use Rattle.bac_protocol.specs.Transaction.{Key, Rules}
use Rattle.bac_protocol.specs.World.{Net, Post, is_lost, post_of}
use Rattle.bac_slots.specs.Slots.{value_at}
use Rattle.bac_transaction.specs.Keys.{PeerKey, same_key}
use Rattle.bac_transaction.specs.Sends.{IsSent, Pairwise, to_all}
use Rattle.bac_transaction.specs.Meanings.{Ending, MeansEnding, MeansReply}
use Rattle.bac_transaction.specs.Ends.{Accepted, Client, TransactionSlot, act_at, context_of}
use Rattle.bac_transaction.specs.Ends.TransactionSlot.{Open, Closed}
use Rattle.bac_transaction.specs.Reuse.{has_place, is_read, responder_reusing}
use Rattle.bac_transaction.specs.Services.{outcome_by, service_of}
use Rattle.bac_world.specs.Node.{Node, Outcome, IsDropped, IsServerTurn}
use Rattle.bac_world.specs.Once.{Fact, Has, Stores}
use Rattle.bac_world.specs.Once.Fact.{Performed, Ended}
use Rattle.bac_world.specs.Laws.{IsMeaningless}
use Rattle.bac_world.specs.ReusingLogs.{Reuses}
use Rattle.bac_world.specs.ReusingNodes.{IsHeardReusing, IsHeardReusingBy, NodeHears}
use Rattle.bac_world.specs.ReusingWorlds.{AreLoggedSo, DeliversSo, WorldRunSo, WorldStepSo}
use Rattle.bac_world.specs.Services as service
use Rattle.bac_world.specs.World.{World, Copy, Event, IsAsked, IsBounded, IsFresh, Note, RunsOn, AreCopied, link_at, newest, peer_at, stores_of, told}
use Rattle.bac_world.specs.World.Event.{Deliver}
use Rattle.bac_world.proofs.Asking.{IsAccepted, accepted_whole}
use Rattle.bac_world.proofs.Bridge.{IsBetween, IsCopyOf, IsWay, TicketFits, copied_to, copies_of, framed_means, here_at, key_of, slot_key}
use Rattle.bac_world.proofs.Headline.{fresh_over, rules_bounded, rules_of}
use Rattle.bac_world.proofs.Hearing.{ticket_at}
use Rattle.bac_world.proofs.NodeLaws.{drops_exactly}
use Rattle.bac_world.proofs.Pairs.{IsPaired, pairwise_get}
use Rattle.bac_world.proofs.Settings.{Setting, always}
use Rattle.bac_world.proofs.Steps.{Over}
use Rattle.bac_liveness.specs.FreshRoundTrip.{Awaits, BeginsOther, IsServedAnew, PerformsNow, RoundTripSufficesAnew, ServesRead}
use Rattle.bac_liveness.specs.WorldRoundTrip.{IsFromServer, IsRequest, MayArrive}
use Rattle.bac_liveness.specs.WorldRuns.{endings_of}
use Rattle.bac_liveness.proofs.Asked.{just_one}
use Rattle.bac_liveness.proofs.EitherEndings as either
use Rattle.bac_liveness.proofs.EitherEndings.{At, delivers_now, goes_on, some_ending, step_on}
use Rattle.bac_liveness.proofs.FreshServing.{Answers, answer_id, answered_as, other_answers, placed, read_answers}
use Rattle.bac_liveness.proofs.GrowingLogs.{run_stay}
use Rattle.bac_liveness.proofs.Paths.{some_is}
use Rattle.bac_liveness.proofs.Serving as serving
use Rattle.bac_liveness.proofs.Serving.{answer_not_from_client}
use Rattle.bac_liveness.proofs.Tracking.{Holds, Tracked}
use Rattle.bac_liveness.proofs.Values.{reply_kind}
use Rattle.bac_liveness.proofs.WorldEndings.{opened_net, opened_once}

-- a copy at the end of a list
at_end : (cs : List Copy) (c : Copy) → slice_get (cs ++ c ∷ []) (length cs) ≡ Some c
at_end [] c = refl
at_end (d ∷ cs) c = at_end cs c

-- a slot has one ticket
abbrev ticket_in : ClientTransaction → TransactionSlot → ClientTransaction
ticket_in other (Open t) = t
ticket_in other (Closed first) = other

abbrev ticket_of : ClientTransaction → Option Client → ClientTransaction
ticket_of other None = other
ticket_of other (Some v) = ticket_in other v.held

one_ticket : (o : Option Client) (i j : ℕ) (t y : ClientTransaction) → o ≡ Some (record { number = i; held = Open t })
    → o ≡ Some (record { number = j; held = Open y }) → t ≡ y
one_ticket o i j t y h k = ap (ticket_of t) (sym h ∙ k)

-- what was performed is logged as of that ask
logged_as : (nodes : List Node) (notes : List Note) (i : ℕ) (b : Node) (o : Option service.Performed) (p : service.Performed) (old new : List Fact) (n : ℕ)
    → o ≡ Some p → ((client : ℕ) → link_at nodes client ≡ Some p.key.peer.link → newest (record { client = client; server = i; invoke_id = p.key.invoke_id }) notes ≡ Some n)
    → (client : ℕ) → link_at nodes client ≡ Some p.key.peer.link
    → AreLoggedSo true nodes notes i b o old new → Has (Performed n p.request p.reply) new
logged_as nodes notes i b None p old new n is newest_is client link logged = absurd cc
logged_as nodes notes i b (Some d) p old new n is newest_is client link logged = go logged
  where
    same : d ≡ p
    same = cc

    go : AreLoggedSo true nodes notes i b (Some d) old new → Has (Performed n p.request p.reply) new
    go (inl l) =
        let to : link_at nodes l.client ≡ Some p.key.peer.link = l.link ∙ ap (λ (y : service.Performed). Some y.key.peer.link) same in
        let noted : newest (record { client = l.client; server = i; invoke_id = p.key.invoke_id }) notes ≡ Some l.number =
        ap (λ (y : service.Performed). newest (record { client = l.client; server = i; invoke_id = y.key.invoke_id }) notes) (sym same) ∙ l.noted in
        let number : l.number ≡ n = (let e : Some l.number ≡ Some n = sym noted ∙ newest_is l.client to in cc) in
        subst (λ (log : List Fact). Has (Performed n p.request p.reply) log) (sym l.log)
        (inl ((λ j. Performed (number j) (same j).request (same j).reply)))
    go (inr l) = absurd (l.stranger client (link ∙ ap (λ (y : service.Performed). Some y.key.peer.link) (sym same)))

module _ (links : ℕ → Option Octets) (apart : (i j : ℕ) (l : Octets) → links i ≡ Some l → links j ≡ Some l → i ≡ j) (W : ℕ) (x : Rules)
    (bound : claims.IsBounded W x) (readable : x.readable ≡ reads_reply) (u : Reuses) (opening : Stores) (old : World)
    (h : At links apart W x bound readable u opening old) (c s : ℕ) (limits : Limits) (r : Request) (asked : World) (a : IsAsked old c s limits r asked)
    (parts : IsAccepted a.before.settings (told old c) (peer_at a.link) (choice_of r) a.asks.octets a.before.clients a.accepted)
    (whole : parts.whole ≡ true) (anew : u s ≡ true) where
  abbrev pub id : ℕ
  id = a.accepted.invoke_id

  id_is : id ≡ parts.id
  id_is = ap (λ (y : Accepted). y.invoke_id) parts.is

  abbrev pub its_key : Key
  its_key = key_of c s id

  abbrev pub number : ℕ
  number = length old.notes

  abbrev pub now : ℕ
  now = told old c

  abbrev pub ask : Ask
  ask = record { first = now; choice = choice_of r; whole = parts.whole; pieces = parts.front ∷ parts.rest }

  abbrev pub text : Octets
  text = join (parts.front ∷ parts.rest)

  abbrev pub client_link : Octets
  client_link = a.before.link

  -- the request, as its client sends it
  abbrev pub request : Apdu
  request = request_apdu (context_of a.before.settings now (slot_key a.link id)) ask

  set : Setting
  set = Some (always u)

  foreign : c ≡ s → ⊥
  foreign = either.foreign links apart W x bound readable u opening old h c s limits r asked a parts

  from_client : links c ≡ Some client_link
  from_client = (h.1.nodes c a.before a.at).link

  to_server : links s ≡ Some a.link
  to_server = either.server_link links apart W x bound readable u opening old h c s limits r asked a parts

  -- Its first copy.

  sent_so : Pairwise IsSent (to_all (peer_at a.link) (request ∷ [])) a.sends
  sent_so = subst (λ (k : ℕ). Pairwise IsSent (to_all (peer_at a.link) (request_apdu (context_of a.before.settings now (slot_key a.link k)) ask ∷ [])) a.sends) (sym id_is)
      (subst (λ (b : Bool). Pairwise IsSent (to_all (peer_at a.link) (client.sends_of (if b then client.Reaction.GoesOn client.Phase.AwaitConfirmation
      (request_apdu (context_of a.before.settings now (slot_key a.link parts.id)) ask ∷ [])
      else client.sends_request_window (context_of a.before.settings now (slot_key a.link parts.id)) ask.choice (outgoing ask.pieces) false))) a.sends) whole
      (subst (λ (y : Accepted). Pairwise IsSent y.sends a.sends) parts.is a.asks.sent))

  way_up : IsWay links apart true its_key c s client_link a.link
  way_up = record { between = (refl, refl); from = from_client; to = to_server }

  pub copied_first : Pairwise (IsCopyOf links apart) (post_of its_key old.time.now request ∷ []) a.sent
  copied_first = copies_of links apart old.nodes h.1.linked old.time.now true its_key c s client_link a.link way_up (request ∷ []) a.sends a.sent
      ((refl, refl), tt) sent_so a.copied

  pub first_copy : (d : Copy) → (q : IsRequest a.sent d) → IsCopyOf links apart (post_of its_key old.time.now request) q.first
  first_copy d q = (subst (λ (cs : List Copy). Pairwise (IsCopyOf links apart) (post_of its_key old.time.now request ∷ []) cs) q.is copied_first).0

  -- A copy of it is delivered.

  abbrev pub IsHeld : World → Type 0
  IsHeld w = Holds c number a.accepted.ticket ask (slot_key a.link id) w

  abbrev pub IsAt : World → Type 0
  IsAt w = At links apart W x bound readable u opening w

  module _ (w served : World) (at : IsAt w) (open_now : IsHeld w) (k : ℕ) (d : Copy) (may : MayArrive x.overtake w k d) (q : IsRequest a.sent d) (node : Node)
      (node_at : slice_get w.nodes s ≡ Some node) (can : PerformsNow (told w s) a.before node id r) (did : WorldStepSo x.overtake u w (Deliver k) served) where
    abbrev pub m : Net
    m = at.0

    pub over : Over links apart W x (Some (always u)) w m
    over = at.1

    abbrev pub fc : IsCopyOf links apart (post_of its_key old.time.now request) q.first
    fc = first_copy d q

    abbrev pub z : IsPaired (IsCopyOf links apart) m.posts k d
    z = pairwise_get (IsCopyOf links apart) m.posts w.copies k d over.posts may.at

    abbrev pub p : Post
    p = z.other

    means : (from : Octets) → Means SpellsApdu from d.octets (peer_at from) request
    means from = subst (λ (o : Octets). Means SpellsApdu from o (peer_at from) request) (sym q.octets)
        (frame_means SpellsApdu is_confirmed_request from fc.to_link q.first.octets request
        (λ t y. subst (λ (l : Octets). length l ≤ 1476) (sym y.is) fc.short) fc.frame)

    apdu_is : request ≡ p.copy.apdu
    apdu_is = (framed_means client_link z.goes.to_link p.copy.apdu request (peer_at client_link) d.octets z.goes.frame z.goes.short (means client_link)).1

    key_is : p.key ≡ its_key
    key_is = sym z.goes.key ∙ q.key ∙ fc.key

    pub between : (d.from ≡ c) × (d.to ≡ s)
    between =
        let y : IsBetween true p.key d.from d.to = subst (λ (b : Apdu). IsBetween (is_from_client b) p.key d.from d.to) (sym apdu_is) z.goes.between in
        (y.0 ∙ ap (λ (e : Key). e.client) key_is, y.1 ∙ ap (λ (e : Key). e.server) key_is)

    pub goes : DeliversSo u w d served
    goes = delivers_now links apart W x bound readable u opening w served k d may did

    abbrev pub after_node : Node
    after_node = goes.hears.after

    abbrev pub outcome : Outcome
    outcome = goes.hears.outcome

    node_is : goes.hears.before ≡ node
    node_is = let e : Some goes.hears.before ≡ Some node = sym goes.hears.at ∙ ap (slice_get w.nodes) between.1 ∙ node_at in cc

    link_is : goes.link ≡ client_link
    link_is = let e : Some goes.link ≡ Some client_link = sym goes.sender ∙ over.linked d.from ∙ ap links between.0 ∙ from_client in cc

    not_dropped : IsDropped (told w d.to) goes.link d.octets goes.hears.before after_node outcome → ⊥
    not_dropped dropped = none (drops_exactly.only (told w d.to) goes.link d.octets goes.hears.before after_node outcome dropped)
      where
        none : (goes.link ≡ goes.hears.before.link) ⊎ IsMeaningless goes.link d.octets → ⊥
        none (inl own) = foreign (sym between.0 ∙ apart d.from d.to goes.link (sym (over.linked d.from) ∙ goes.sender)
            ((over.nodes d.to goes.hears.before goes.hears.at).link ∙ ap Some (sym own)) ∙ between.1)
        none (inr nothing) = nothing (peer_at goes.link) request (means goes.link)

    abbrev pub Turns : Bool → Type 0
    Turns share = IsServerTurn (responder_reusing share node.settings (told w s) (service_of node.store) (peer_at client_link) request node.servers)
        (told w s) node after_node outcome

    pub turn : (share : Bool) × Turns share
    turn = go (subst (λ (b : Bool). NodeHears b (told w d.to) goes.link d.octets goes.hears.before after_node outcome) (ap u between.1 ∙ anew) goes.hears.on)
      where
        by : (share : Bool) → IsHeardReusing share (told w d.to) goes.link d.octets goes.hears.before after_node outcome → Turns share
        by share y =
            let one = framed_means goes.link fc.to_link request y.apdu y.peer d.octets
            (subst (λ (o : Octets). IsFrameTo SpellsApdu is_confirmed_request (peer_at fc.to_link) request o) (sym q.octets) fc.frame) fc.short y.means in
            subst (λ (n : Node). IsServerTurn (responder_reusing share n.settings (told w s) (service_of n.store) (peer_at client_link) request n.servers)
            (told w s) n after_node outcome) node_is
            (subst (λ (i : ℕ). IsHeardReusingBy share true (peer_at client_link) request (told w i) goes.hears.before after_node outcome) between.1
            (subst (λ (l : Octets). IsHeardReusingBy share true (peer_at l) request (told w d.to) goes.hears.before after_node outcome) link_is
            (subst (λ (e : PeerView). IsHeardReusingBy share true e request (told w d.to) goes.hears.before after_node outcome) one.0
            (subst (λ (b : Apdu). IsHeardReusingBy share (is_from_client b) y.peer b (told w d.to) goes.hears.before after_node outcome) one.1 y.heard))))

        go : NodeHears true (told w d.to) goes.link d.octets goes.hears.before after_node outcome → (share : Bool) × Turns share
        go (share, inl dropped) = absurd (not_dropped dropped)
        go (share, inr y) = (share, by share y)

    -- Its server performs it.

    abbrev pub slot : PeerKey
    slot = slot_key client_link id

    abbrev pub context : Context
    context = context_of node.settings (told w s) slot

    abbrev pub reaction : server.Reaction
    reaction = reusing_on_apdu context (service_of node.store) is_read (value_at same_key slot node.servers.slots)
        (has_place turn.0 (told w s) slot request node.servers) request

    spelled : SpellsRequest (choice_of r) r text
    spelled = subst (SpellsRequest (choice_of r) r) (sym parts.joined) a.asks.spelled

    says : service_of node.store (choice_of r) text ≡ Replies can.reply
    says = ap (outcome_by node.store) (request_again (choice_of r) text r spelled) ∙ can.outcome

    answers : Answers context (choice_of r) text can.reply reaction
    answers = go can.serves
      where
        go : ServesRead (told w s) slot node.servers r ⊎ BeginsOther (told w s) slot node.servers r → Answers context (choice_of r) text can.reply reaction
        go (inl y) = read_answers context (service_of node.store) a.before.settings.limits id (choice_of r) text can.reply says can.way
            (has_place turn.0 (told w s) slot request node.servers) slot node.servers y.read y.idle
        go (inr y) = other_answers context (service_of node.store) a.before.settings.limits id (choice_of r) text can.reply says can.way
            (value_at same_key slot node.servers.slots) (has_place turn.0 (told w s) slot request node.servers)
            (placed context (service_of node.store) a.before.settings.limits id (choice_of r) text can.reply says can.way turn.0 slot node.servers y.none y.place)
            y.other y.none

    abbrev pub answer : Apdu
    answer = reply_apdu context (choice_of r) can.reply

    -- the answer alone is sent
    sends : Pairwise IsSent (to_all (peer_at client_link) (answer ∷ [])) outcome.sends
    sends = subst (λ (l : List Apdu). Pairwise IsSent (to_all (peer_at client_link) l) outcome.sends) answers.sends turn.1.sends

    way_down : IsWay links apart false its_key s c a.link client_link
    way_down = record { between = (refl, refl); from = to_server; to = from_client }

    answer_copied : Pairwise (IsCopyOf links apart) (post_of its_key w.time.now answer ∷ []) goes.hears.acts.sent
    answer_copied = copies_of links apart w.nodes over.linked w.time.now false its_key s c a.link client_link way_down (answer ∷ []) outcome.sends
        goes.hears.acts.sent ((answer_not_from_client context (choice_of r) can.reply, answer_id context (choice_of r) can.reply), tt) sends
        (copied_to links apart w.nodes over.linked w.time.now s c (peer_at client_link) from_client (answer ∷ []) outcome.sends goes.hears.acts.sent sends
        (subst (λ (i : ℕ). AreCopied w.nodes w.time.now i outcome.sends goes.hears.acts.sent) between.1 goes.hears.acts.copied))

    pub one : (b : Copy) × (goes.hears.acts.sent ≡ b ∷ [])
    one = just_one (IsCopyOf links apart) (post_of its_key w.time.now answer) goes.hears.acts.sent answer_copied

    pub answer_copy : IsCopyOf links apart (post_of its_key w.time.now answer) one.0
    answer_copy = (subst (λ (cs : List Copy). Pairwise (IsCopyOf links apart) (post_of its_key w.time.now answer ∷ []) cs) one.1 answer_copied).0

    pub sent : served.copies ≡ w.copies ++ one.0 ∷ []
    sent = goes.hears.acts.copies ∙ ap (λ (cs : List Copy). w.copies ++ cs) one.1

    -- what was performed
    abbrev pub effect : Effect
    effect = record { request = record { choice = choice_of r; service = text }; reply = can.reply }

    was_performed : (o : Option service.Performed) → service.ArePerformed node.store (act_at slot (Some effect)) o
        → (e : service.Performed) × (o ≡ Some e) × service.IsPerformed node.store (record { key = slot; effect = effect }) e
    was_performed None y = absurd y
    was_performed (Some e) y = (e, refl, y)

    pub performed_so : (e : service.Performed) × (outcome.performed ≡ Some e) × service.IsPerformed node.store (record { key = slot; effect = effect }) e
    performed_so = was_performed outcome.performed
        (subst (λ (e : Option Effect). service.ArePerformed node.store (act_at slot e) outcome.performed) answers.effect turn.1.performed)

    abbrev pub e : service.Performed
    e = performed_so.0

    request_is : e.request ≡ r
    request_is = one_request (choice_of r) e.request r text performed_so.2.what.request spelled

    reply_is : e.reply ≡ reply_to node.store r
    reply_is = performed_so.2.what.reply ∙ ap (reply_to node.store) request_is

    -- it means that reply
    reply_means : MeansReply (choice_of r) can.reply (reply_to node.store r)
    reply_means = subst (MeansReply (choice_of r) can.reply) reply_is performed_so.2.what.means

    -- Its ticket.

    newest_is : (i : ℕ) → link_at w.nodes i ≡ Some client_link → newest (key_of i s id) w.notes ≡ Some number
    newest_is i link =
        let same : i ≡ c = apart i c client_link (sym (over.linked i) ∙ link) from_client in
        let t = open_now in
        let fits : TicketFits (is_lost m its_key) (here_at m c) w.notes c (m.numbers its_key) (value_at same_key (slot_key a.link id) t.node.clients.slots)
        (m.tickets its_key) = (over.nodes c t.node t.at).clients.found s a.link id to_server in
        let is = ticket_at (is_lost m its_key) (here_at m c) w.notes c (m.numbers its_key) a.accepted.ticket t.kept.ticket (m.tickets its_key)
        (subst (λ (o : Option Client). TicketFits (is_lost m its_key) (here_at m c) w.notes c (m.numbers its_key) o (m.tickets its_key)) t.kept.there fits) in
        let numbers : Some number ≡ Some (m.numbers its_key) = sym t.noted ∙ is.1 in
        ap (λ (j : ℕ). newest (key_of j s id) w.notes) same ∙ over.noted its_key t.kept.ticket is.0 ∙ sym numbers

    pub performed : Has (Performed number r (reply_to node.store r)) served.log
    performed = subst (λ (y : plain.Reply). Has (Performed number r y) served.log) reply_is
        (subst (λ (y : Request). Has (Performed number y e.reply) served.log) request_is
        (logged_as w.nodes w.notes s after_node outcome.performed e goes.hears.acts.between served.log number performed_so.1
        (λ i link. ap (λ (y : PeerKey). newest (key_of i s y.invoke_id) w.notes) performed_so.2.key
        ∙ newest_is i (link ∙ ap (λ (y : PeerKey). Some y.peer.link) performed_so.2.key)) c
        (over.linked c ∙ from_client ∙ ap (λ (y : PeerKey). Some y.peer.link) (sym performed_so.2.key))
        (subst (λ (i : ℕ). AreLoggedSo true w.nodes w.notes i after_node outcome.performed goes.hears.acts.between served.log) between.1
        (subst (λ (b : Bool). AreLoggedSo b w.nodes w.notes d.to after_node outcome.performed goes.hears.acts.between served.log) (ap u between.1 ∙ anew)
        goes.hears.acts.logged))))

    -- The answer is delivered.

    pub answer_from : IsFromServer c s id one.0
    answer_from = record {
      key = answer_copy.key;
      from = (subst (λ (b : Bool). IsBetween b its_key one.0.from one.0.to) (answer_not_from_client context (choice_of r) can.reply) answer_copy.between).0;
    }

    module _ (v answered : World) (at_v : IsAt v) (held : IsHeld v) (waits : held.kept.ticket.phase ≡ client.Phase.AwaitConfirmation)
        (young : told v c - told old c ≤ DEADLINE) (comes : MayArrive x.overtake v (length w.copies) one.0)
        (hears : WorldStepSo x.overtake u v (Deliver (length w.copies)) answered) where
      abbrev pub y : IsPaired (IsCopyOf links apart) at_v.0.posts (length w.copies) one.0
      y = pairwise_get (IsCopyOf links apart) at_v.0.posts v.copies (length w.copies) one.0 at_v.1.posts comes.at

      -- it is the answer that comes
      comes_is : answer ≡ y.other.copy.apdu
      comes_is = (framed_means client_link y.goes.to_link y.other.copy.apdu answer (peer_at client_link) one.0.octets y.goes.frame y.goes.short
          (frame_means SpellsApdu is_confirmed_request client_link answer_copy.to_link one.0.octets answer
          (λ t e. subst (λ (l : Octets). length l ≤ 1476) (sym e.is) answer_copy.short) answer_copy.frame)).1

      kind : KindFits reads_reply (choice_of r) can.reply
      kind = reply_kind (choice_of r) text node.store r can.reply (reply_to node.store r) spelled refl reply_means

      fresh : is_expired (told v c) held.kept.ticket.ask ≡ false
      fresh = ap (is_expired (told v c)) held.kept.ask_is ∙ grind (arith, nat_tests)

      choice_is : held.kept.ticket.ask.choice ≡ choice_of r
      choice_is = ap (λ (y : Ask). y.choice) held.kept.ask_is

      abbrev pub its_turn : Apdu → Reaction
      its_turn b = either.turn_with links apart W x bound readable u opening old h c s limits r asked a parts v answered at_v (length w.copies) one.0 comes
          answer_from hears held b

      turn_is : client.ending_of (its_turn y.other.copy.apdu) ≡ Some (machine.Ending.Answered can.reply)
      turn_is = ap client.ending_of (ap its_turn (sym (ap (λ (n : ℕ). reply_apdu context n can.reply) choice_is ∙ comes_is))
          ∙ serving.answer_ends _ context reads_reply held.kept.ticket can.reply waits fresh
          (subst (λ (n : ℕ). KindFits reads_reply n can.reply) (sym choice_is) kind))

      pub result : Has (Ended number (Ending.Answered (reply_to node.store r))) answered.log
      result =
          let gives = either.turn_gives links apart W x bound readable u opening old h c s limits r asked a parts v answered at_v (length w.copies) one.0 comes
          answer_from hears held (machine.Ending.Answered can.reply) turn_is in
          subst (λ (how : Ending). Has (Ended number how) answered.log)
          (answered_as (choice_of r) can.reply (reply_to node.store r) gives.0 reply_means
          (subst (λ (n : ℕ). MeansEnding n (machine.Ending.Answered can.reply) gives.0) choice_is gives.1)) gives.2

  -- An ask that is open is held.

  holds : (v : World) → endings_of number v.log ≡ 0 → Tracked c number a.accepted.ticket ask (slot_key a.link id) v → IsHeld v
  holds v none (inl t) = t
  holds v none (inr ended) = absurd (let some = some_ending number ended.0 v.log ended.1 in omega arith)

  phase_is : (v : World) (held : IsHeld v) (waits : Awaits v c a.link id) → held.kept.ticket.phase ≡ client.Phase.AwaitConfirmation
  phase_is v held waits =
      let same : held.node ≡ waits.node = some_is held.node waits.node (sym held.at ∙ waits.at) in
      ap (λ (t : ClientTransaction). t.phase) (one_ticket (value_at same_key (slot_key a.link id) waits.node.clients.slots) a.accepted.ticket waits.number
      held.kept.ticket waits.ticket
      (ap (λ (n : Node). value_at same_key (slot_key a.link id) n.clients.slots) (sym same) ∙ held.kept.there) waits.there) ∙ waits.waits

  module _ (before : List Event) (w served : World) (run : WorldRunSo x.overtake u asked before w) (on : RunsOn c before)
      (unended : endings_of number w.log ≡ 0) (k : ℕ) (d : Copy) (may : MayArrive x.overtake w k d) (q : IsRequest a.sent d) (node : Node)
      (node_at : slice_get w.nodes s ≡ Some node) (can : PerformsNow (told w s) a.before node id r) (did : WorldStepSo x.overtake u w (Deliver k) served) where
    at_w : IsAt w
    at_w = goes_on links apart W x bound readable u opening before asked w
        (either.at_asked links apart W x bound readable u opening old h c s limits r asked a parts) run

    held_w : IsHeld w
    held_w = holds w unended (either.tracked links apart W x bound readable u opening old h c s limits r asked a parts before w run on)

    served_so : IsServedAnew x.overtake u old c a.link id r node w served
    served_so = record {
      performed = performed w served at_w held_w k d may q node node_at can did;
      answer = (one w served at_w held_w k d may q node node_at can did).0;
      sent = sent w served at_w held_w k d may q node node_at can did;
      answered = λ between v answered after on_then open_then waits young comes hears more last run'.
          let at_served = step_on links apart W x bound readable u opening (Deliver k) w served at_w did in
          let at_v = goes_on links apart W x bound readable u opening between served v at_served after in
          let held = holds v open_then (either.tracked_on links apart W x bound readable u opening old h c s limits r asked a parts (Deliver k ∷ between) w v at_w
          (served, did, after) on_then (inl held_w)) in
          run_stay x.overtake u more answered last run' (Ended number (Ending.Answered (reply_to node.store r)))
          (result w served at_w held_w k d may q node node_at can did v answered at_v held (phase_is v held waits) young comes hears);
    }

pub round_trip_anew : (u : Reuses) (W overtake : ℕ) (first reached : World) → IsFresh first → IsTimely first.time.pace → IsBounded W overtake first
    → (events : List Event) → WorldRunSo overtake u first events reached → RoundTripSufficesAnew overtake u reached
round_trip_anew u W overtake first reached fresh timely bounded events run c s limits r asked a in_one anew before w served after on unended k d may q node at can did =
    let links : ℕ → Option Octets = link_at first.nodes in
    let x : Rules = rules_of overtake first in
    let bound = rules_bounded W overtake first bounded in
    let h = goes_on links fresh.apart W x bound refl u (stores_of first.nodes) events first reached
    (opened_net first, fresh_over (Some (always u)) W overtake first fresh timely bounded, opened_once u first fresh) run in
    let p = accepted_whole a.before.settings (told reached c) (peer_at a.link) (choice_of r) a.asks.octets a.before.clients a.accepted limits a.asks.accepted in_one in
    served_so links fresh.apart W x bound refl u (stores_of first.nodes) reached h c s limits r asked a p.0 p.1 anew before w served after on unended k d may q node
    at can did
