-- The laws of a node of fresh reads.
use Rattle.std.proofs.Common.{◌≡◌, ◌⊎◌, ℕ, Bool, true, false, ◌&&◌, ◌||◌, not, List, Option, Some, None, if◌then◌else◌, nat_eq, refl, sym, ap, subst, inl, inr, ◌∙◌, arith}
use Rattle.std.proofs.lemmas.Bool.Decides.{nat_tests}
use Rattle.std.proofs.lemmas.Slice.Eq.{bytes_eq-Decides}
use Rattle.std.specs.Str.{bytes_eq}
use Rattle.bac_apdu.specs.Apdu.{Apdu, Limits}
use Rattle.bac_apdu.specs.Apdu.Apdu.{ConfirmedRequest}
use Rattle.bac_apdu.specs.Spelling.{SpellsApdu}
use Rattle.bac_apdu.proofs.Apdus.{apdu_one}
use Rattle.bac_npdu.specs.Peers.{PeerView}
use Rattle.bac_npdu.proofs.Datagrams.{means_one}
use Rattle.bac_service.specs.Requests.{SpellsRequest}
use Rattle.bac_service.specs.Values.{Request, choice_of}
use Rattle.bac_service.proofs.OnlySpelling.{one_request}
use Rattle.bac_service.proofs.Wholes.{request_again}
use Rattle.bac_store.specs.Replies.{reply_to}
use Rattle.bac_protocol.specs.Context.{Context}
use Rattle.bac_protocol.specs.Service.{Octets, Reply}
use Rattle.bac_protocol.specs.Service.Outcome.{Replies}
use Rattle.bac_protocol.specs.Sizes.{reply_way_of}
use Rattle.bac_protocol.specs.Sizes.Way.{InOne}
use Rattle.bac_protocol.specs.Wire.{is_from_client}
use Rattle.bac_protocol.specs.Server.{Effect, ServerTransaction, Service, idle_on_apdu, is_kept, is_live, live_on_apdu, server_on_apdu}
use Rattle.bac_protocol.specs.Reuse.{ends_entry, is_over, reusing_on_apdu}
use Rattle.bac_protocol.proofs.Reused.{goes_on_as_ever}
use Rattle.bac_slots.specs.Slots.{value_at}
use Rattle.bac_transaction.specs.Keys.{PeerKey, same_key}
use Rattle.bac_transaction.specs.Sends.{IsSent, Pairwise, to_all}
use Rattle.bac_transaction.specs.Ends.{ServerTurn, act_at, context_of, is_free, responder_on_apdu, server_goes}
use Rattle.bac_transaction.specs.Reuse.{has_place, is_read, responder_reusing, slots_left}
use Rattle.bac_transaction.specs.Services.{outcome_by, outcome_of, service_of}
use Rattle.bac_world.specs.Laws.{Gets, IsEntry, IsMeaningless}
use Rattle.bac_world.specs.Node.{Node, Outcome, IsHeardBy, IsServerTurn}
use Rattle.bac_world.specs.ReusingNodes.{IsHeardReusingBy, NodeHears}
use Rattle.bac_world.specs.Services.{ArePerformed, Performed, store_after}
use Rattle.bac_world.proofs.NodeLaws.{drops_exactly, repeat_gets_kept_reply}
use Rattle.bac_liveness.specs.FreshNodes.{AnswerEndsSo, GetsSo, RepeatIsRemembered, RequestIsPerformedAnew}
use Rattle.bac_liveness.specs.FreshRoundTrip.{BeginsOther, ServesRead}
use Rattle.bac_liveness.proofs.AtNode.{answer_ends}
use Rattle.bac_liveness.proofs.Endings.{not_from_client}
use Rattle.bac_liveness.proofs.FreshServing.{Answers, other_answers, placed, read_answers}

-- What means an APDU is heard as that.
module _ (now : ℕ) (peer : PeerView) (a : Apdu) (old new : Node) (o : Outcome) (gets : GetsSo true now peer a old new o) where
  heard : (share : Bool) × IsHeardReusingBy share (is_from_client a) peer a now old new o
  heard = go gets.on
    where
      neither : (gets.from ≡ old.link) ⊎ IsMeaningless gets.from gets.octets → ⊥
      neither (inl own) = gets.foreign own
      neither (inr none) = none peer a gets.means

      go : NodeHears true now gets.from gets.octets old new o → (share : Bool) × IsHeardReusingBy share (is_from_client a) peer a now old new o
      go (share, inl dropped) = absurd (neither (drops_exactly.only now gets.from gets.octets old new o dropped))
      go (share, inr y) =
          let one = means_one SpellsApdu apdu_one gets.from gets.octets y.peer peer y.apdu a y.means gets.means in (
            share,
            subst (λ (q : PeerView). IsHeardReusingBy share (is_from_client a) q a now old new o) one.0
                (subst (λ (b : Apdu). IsHeardReusingBy share (is_from_client b) y.peer b now old new o) one.1 y.heard),
          )

  -- where its end is as a strict one, so is the node
  gets_as : IsHeardBy (is_from_client a) peer a now old new o → Gets now peer a old new o
  gets_as turn = record {
    from = gets.from;
    octets = gets.octets;
    foreign = gets.foreign;
    means = gets.means;
    on = inr (record { peer = peer; apdu = a; foreign = gets.foreign; means = gets.means; heard = turn });
  }

-- As an answer comes.

pub answer_ends_so : AnswerEndsSo
answer_ends_so false now peer a old new o gets from apart number t there late = answer_ends now peer a old new o
    (record { from = gets.from; octets = gets.octets; foreign = gets.foreign; means = gets.means; on = gets.on }) from apart number t there late
answer_ends_so true now peer a old new o gets from apart number t there late = answer_ends now peer a old new o
    (gets_as now peer a old new o gets (by (is_from_client a) (not_from_client a from) (heard now peer a old new o gets).1)) from apart number t there late
  where
    by : (up : Bool) → up ≡ false → IsHeardReusingBy (heard now peer a old new o gets).0 up peer a now old new o → IsHeardBy up peer a now old new o
    by true e turn = absurd cc
    by false e turn = turn

-- A request that is performed.

module _ (now : ℕ) (old new : Node) (o : Outcome) (key : PeerKey) (limits : Limits) (service : Octets) (r : Request)
    (gets : GetsSo true now key.peer (ConfirmedRequest limits key.invoke_id None (choice_of r) service) old new o)
    (serves : ServesRead now key old.servers r ⊎ BeginsOther now key old.servers r) (spelled : SpellsRequest (choice_of r) r service)
    (reply : Reply) (outcome : outcome_of (reply_to old.store r) ≡ Replies reply) (in_one : reply_way_of old.settings limits reply ≡ InOne) where
  abbrev a : Apdu
  a = ConfirmedRequest limits key.invoke_id None (choice_of r) service

  abbrev c : Context
  c = context_of old.settings now key

  its : (share : Bool) × IsHeardReusingBy share true key.peer a now old new o
  its = heard now key.peer a old new o gets

  its_turn : IsServerTurn (responder_reusing its.0 old.settings now (service_of old.store) key.peer a old.servers) now old new o
  its_turn = its.1

  says : service_of old.store (choice_of r) service ≡ Replies reply
  says = ap (outcome_by old.store) (request_again (choice_of r) service r spelled) ∙ outcome

  its_answers : Answers c (choice_of r) service reply (reusing_on_apdu c (service_of old.store) is_read (value_at same_key key old.servers.slots)
      (has_place its.0 now key a old.servers) a)
  its_answers = go serves
    where
      go : ServesRead now key old.servers r ⊎ BeginsOther now key old.servers r
          → Answers c (choice_of r) service reply (reusing_on_apdu c (service_of old.store) is_read (value_at same_key key old.servers.slots)
          (has_place its.0 now key a old.servers) a)
      go (inl y) = read_answers c (service_of old.store) limits key.invoke_id (choice_of r) service reply says in_one
          (has_place its.0 now key a old.servers) key old.servers y.read y.idle
      go (inr y) = other_answers c (service_of old.store) limits key.invoke_id (choice_of r) service reply says in_one
          (value_at same_key key old.servers.slots) (has_place its.0 now key a old.servers)
          (placed c (service_of old.store) limits key.invoke_id (choice_of r) service reply says in_one its.0 key old.servers y.none y.place) y.other y.none

  made : (d : Option Performed) → ArePerformed old.store (act_at key (Some (record { request = record { choice = choice_of r; service = service }; reply = reply }))) d
      → d ≡ Some (record { key = key; request = r; reply = reply_to old.store r })
  made None k = absurd k
  made (Some d) k =
      let same : d.request ≡ r = one_request (choice_of r) d.request r service k.what.request spelled in
      λ i. Some (record { key = k.key i; request = same i; reply = (k.what.reply ∙ ap (reply_to old.store) same) i })

  its_performed : o.performed ≡ Some (record { key = key; request = r; reply = reply_to old.store r })
  its_performed = made o.performed (subst (λ (e : Option Effect). ArePerformed old.store (act_at key e) o.performed) its_answers.effect its_turn.performed)

pub request_is_performed : RequestIsPerformedAnew
request_is_performed now old new o key limits service r gets serves spelled reply outcome in_one =
    let turn = its_turn now old new o key limits service r gets serves spelled reply outcome in_one in
    let answers = its_answers now old new o key limits service r gets serves spelled reply outcome in_one in
    let performed = its_performed now old new o key limits service r gets serves spelled reply outcome in_one in
    record {
      sends = record {
        sent = subst (λ (l : List Apdu). Pairwise IsSent (to_all key.peer l) o.sends) answers.sends turn.sends;
        ended = turn.ended;
        dropped = turn.dropped;
      };
      performed = performed;
      store = ap (λ (n : Node). n.store) turn.node ∙ ap (store_after old.store) performed;
      latest = ap (λ (n : Node). n.latest) turn.node;
      clients = ap (λ (n : Node). n.clients) turn.node;
    }

-- A repeat that is remembered.

same_kept : (e : ServerTransaction) (choice : ℕ) (service : Octets) → e.request ≡ Some service → choice ≡ e.choice → is_kept e e.request choice service ≡ true
same_kept e choice service is same = ap (λ y. is_kept e y choice service) is
    ∙ ap (λ b. b && bytes_eq service service) (let t : nat_eq choice e.choice ≡ true = grind (arith, nat_tests) in t)
    ∙ (bytes_eq-Decides service service).1 refl

and_false : (b : Bool) → (b && false) ≡ false
and_false true = refl
and_false false = refl

module _ (share : Bool) (old : Node) (now : ℕ) (key : PeerKey) (choice : ℕ) (limits : Limits) (service : Octets) (other : is_read choice ≡ false)
    (e : ServerTransaction) (entry : IsEntry now old key e) (kept : is_kept e e.request choice service ≡ true) where
  abbrev request : Apdu
  request = ConfirmedRequest limits key.invoke_id None choice service

  abbrev its_context : Context
  its_context = context_of old.settings now key

  abbrev its_service : Service
  its_service = service_of old.store

  stays : ends_entry is_read now (value_at same_key key old.servers.slots) request ≡ false
  stays =
      ap (λ (o : Option ServerTransaction). ends_entry is_read now o request) entry.at
      ∙ ap (λ (b : Bool). is_live now e && (is_over e.state && (b || not (is_kept e e.request choice service)))) other
      ∙ ap (λ (b : Bool). is_live now e && (is_over e.state && not b)) kept
      ∙ ap (λ (b : Bool). is_live now e && b) (and_false (is_over e.state)) ∙ and_false (is_live now e)

  live_is : (free : Bool) → server_on_apdu its_context its_service (Some e) free request ≡ live_on_apdu its_context its_service e e.state request
  live_is free = ap (λ (b : Bool). if b then live_on_apdu its_context its_service e e.state request else idle_on_apdu its_context its_service (Some e) free request)
      entry.live

  reaction_is : (free : Bool) → reusing_on_apdu its_context its_service is_read (value_at same_key key old.servers.slots) free request
      ≡ server_on_apdu its_context its_service (value_at same_key key old.servers.slots) (is_free now old.servers) request
  reaction_is free =
      ap (λ (o : Option ServerTransaction). reusing_on_apdu its_context its_service is_read o free request) entry.at
      ∙ goes_on_as_ever.kept its_context its_service is_read e free limits key.invoke_id choice service entry.live other kept
      ∙ live_is free ∙ sym (live_is (is_free now old.servers))
      ∙ ap (λ (o : Option ServerTransaction). server_on_apdu its_context its_service o (is_free now old.servers) request) (sym entry.at)

  turn_is : responder_reusing share old.settings now its_service key.peer request old.servers
      ≡ responder_on_apdu old.settings now its_service key.peer request old.servers
  turn_is =
      ap (λ (b : Bool). server_goes now (record (old.servers) { slots = slots_left b key old.servers.slots }) key
      (reusing_on_apdu its_context its_service is_read (value_at same_key key old.servers.slots) (has_place share now key request old.servers) request)) stays
      ∙ ap (server_goes now old.servers key) (reaction_is (has_place share now key request old.servers))

pub repeat_is_remembered : RepeatIsRemembered
repeat_is_remembered now old new o key choice limits service gets other e entry is same reply state =
    let its = heard now key.peer (ConfirmedRequest limits key.invoke_id None choice service) old new o gets in
    repeat_gets_kept_reply.same now old new o key choice limits service
    (gets_as now key.peer (ConfirmedRequest limits key.invoke_id None choice service) old new o gets
    (subst (λ (t : ServerTurn). IsServerTurn t now old new o)
    (turn_is its.0 old now key choice limits service other e entry (same_kept e choice service is same)) its.1)) e entry is same reply state
