-- A request in one APDU gets one reply.
use Rattle.std.proofs.Common.{◌≡◌, ◌≢◌, ℕ, ◌+◌, ◌-◌, ◌≤◌, true, if◌then◌else◌, nat_le, List, [], ◌∷◌, length, get_or}
use Rattle.std.proofs.Common.{None, Result, Ok, Err, IfOk, refl, ap, sym, subst, ◌∙◌, arith}
use Rattle.std.proofs.lemmas.Bool.Decides.{nat_tests}
use Rattle.bac_apdu.specs.Apdu.{Limits, ConfirmedRequest}
use Rattle.bac_npdu.specs.Peers.{PeerView}
use Rattle.bac_service.specs.Values.{Request}
use Rattle.bac_service.specs.Replies as plain
use Rattle.bac_service.specs.Spellings.{complex_spelling}
use Rattle.bac_store.specs.House.{house}
use Rattle.bac_store.specs.Replies.{reply_to}
use Rattle.bac_protocol.specs.Context.{Settings, Context}
use Rattle.bac_protocol.specs.Service.{Octets, Reply}
use Rattle.bac_protocol.specs.Service.Reply.{Simple, Complex, Error}
use Rattle.bac_protocol.specs.Service.Outcome.{Replies}
use Rattle.bac_protocol.specs.Sizes.{reply_way_in_segments, reply_way_of, reply_way_of_size, transfer_size}
use Rattle.bac_protocol.specs.Sizes.Way.{InOne}
use Rattle.bac_protocol.specs.Server as server
use Rattle.bac_protocol.proofs.Ways.{transfer_some}
use Rattle.bac_segment.specs.Pieces.{pieces_of}
use Rattle.bac_transaction.specs.Ends.{context_of}
use Rattle.bac_transaction.specs.Keys.{PeerKey}
use Rattle.bac_transaction.specs.Sends.{Datagram, Pairwise, IsSent, to_peer}
use Rattle.bac_transaction.specs.Services.{outcome_of}
use Rattle.bac_driver.specs.Nodes.{Node, Gets, IsPerformedNow}
use Rattle.bac_driver.proofs.Nodes.{new_is_performed, stores_reply}
use Rattle.bac_commands.specs.Answers.{AreAnswers, Asks, IsReplied}
use Rattle.bac_commands.specs.Houses.{node_with}
use Rattle.bac_commands.specs.ReplyApdus.{IsShort, reply_apdu}
use Rattle.bac_commands.specs.declared.answering.TheConstants.{CLIENT, SERVER}
use Rattle.bac_commands.proofs.HouseReplies.{house_short}

replies_are : (x y : Reply) → Replies x ≡ Replies y → x ≡ y
replies_are x y e = cc

-- ---- a short reply goes in one APDU

fits : (size : ℕ) (peer : Limits) (service : Octets) → 50 ≤ size → length service ≤ 47 → reply_way_of_size size peer service ≡ InOne
fits size peer service large few =
    let is : nat_le (length service + 3) size ≡ true = grind (arith, nat_tests, large, few) in
    ap (λ b. if b then InOne else reply_way_in_segments peer (pieces_of (size - 5) service)) is

in_one : (s : Settings) (peer : Limits) (p : plain.Reply) (reply : Reply) → IsShort p → outcome_of p ≡ Replies reply → reply_way_of s peer reply ≡ InOne
in_one s peer plain.Reply.Simple reply short says = ap (reply_way_of s peer) (sym (replies_are Simple reply says))
in_one s peer (plain.Reply.Complex c) reply short says =
    ap (reply_way_of s peer) (sym (replies_are (Complex (complex_spelling c)) reply says))
    ∙ fits (transfer_size s.limits.max_apdu peer.max_apdu) peer (complex_spelling c) (transfer_some s.limits.max_apdu peer.max_apdu) short
in_one s peer (plain.Reply.Error class code) reply short says = ap (reply_way_of s peer) (sym (replies_are (Error class code) reply says))
in_one s peer (plain.Reply.Reject reason) reply short says = absurd cc

-- the machine's APDU is that of the reply as a value
apdu_is : (c : Context) (choice : ℕ) (p : plain.Reply) (reply : Reply) → outcome_of p ≡ Replies reply
    → server.reply_apdu c choice reply ≡ reply_apdu c.invoke_id choice p
apdu_is c choice plain.Reply.Simple reply says = ap (server.reply_apdu c choice) (sym (replies_are Simple reply says))
apdu_is c choice (plain.Reply.Complex d) reply says = ap (server.reply_apdu c choice) (sym (replies_are (Complex (complex_spelling d)) reply says))
apdu_is c choice (plain.Reply.Error class code) reply says = ap (server.reply_apdu c choice) (sym (replies_are (Error class code) reply says))
apdu_is c choice (plain.Reply.Reject reason) reply says = absurd cc

-- ---- the node

abbrev server_node : Node
server_node = node_with SERVER house

foreign : CLIENT ≢ server_node.link
foreign e = let last : 0xC1 ≡ 0xC0 = ap (λ (l : List ℕ). get_or l 5 0) e in absurd (omega (arith, last))

pub one_reply : (octets : List ℕ) (sent : List Datagram) (peer : PeerView) (invoke_id choice : ℕ) (r : Request) → AreAnswers octets sent
    → Asks octets peer invoke_id choice r → IsReplied peer invoke_id choice r sent
one_reply octets sent peer invoke_id choice r answers asks =
    let key : PeerKey = record { peer = peer; invoke_id = invoke_id } in
    let gets : Gets 0 peer (ConfirmedRequest asks.limits invoke_id None choice asks.service) server_node answers.after answers.outcome =
    record { from = CLIENT; octets = octets; foreign = foreign; means = asks.means; on = answers.on } in
    let reply : (x : Reply) × (outcome_of (reply_to house r) ≡ Replies x) = stores_reply house r in
    let way : reply_way_of server_node.settings asks.limits reply.0 ≡ InOne =
    in_one server_node.settings asks.limits (reply_to house r) reply.0 (house_short r) reply.1 in
    let done : IsPerformedNow 0 server_node answers.after answers.outcome key choice asks.limits asks.service r reply.0 =
    new_is_performed 0 server_node answers.after answers.outcome key choice asks.limits asks.service gets refl refl r asks.spelled reply.0 reply.1 way in
    let apdu : server.reply_apdu (context_of server_node.settings 0 key) choice reply.0 ≡ reply_apdu invoke_id choice (reply_to house r) =
    apdu_is (context_of server_node.settings 0 key) choice (reply_to house r) reply.0 reply.1 in
    subst (λ (l : List Datagram). Pairwise IsSent (to_peer peer (reply_apdu invoke_id choice (reply_to house r)) ∷ []) l) (sym answers.sends)
    (subst (λ a. Pairwise IsSent (to_peer peer a ∷ []) answers.outcome.sends) apdu done.sends.sent)

-- the same of what a call answers
pub replied : {V E : Type 0} (items : V → List Datagram) (octets : List ℕ) (x : Result V E) → IfOk x (λ v. AreAnswers octets (items v))
    → (peer : PeerView) (invoke_id choice : ℕ) (r : Request) → Asks octets peer invoke_id choice r → IfOk x (λ v. IsReplied peer invoke_id choice r (items v))
replied items octets (Ok v) h peer invoke_id choice r asks = one_reply octets (items v) peer invoke_id choice r h asks
replied items octets (Err e) h peer invoke_id choice r asks = tt
