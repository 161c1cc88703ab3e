-- What a node of fresh reads does with a datagram, as Laws of bac_world says it of a strict one: it shares its slots among addresses, or does not.
use Rattle.std.specs.Prelude.{◌≡◌, ◌≢◌, ◌⊎◌, ℕ, ◌-◌, ◌<◌, Bool, true, false, [], ◌∷◌, Some, None}
use Rattle.bac_apdu.specs.Apdu.{Apdu, Limits}
use Rattle.bac_apdu.specs.Apdu.Apdu.{ConfirmedRequest}
use Rattle.bac_apdu.specs.Spelling.{SpellsApdu}
use Rattle.bac_npdu.specs.Datagram.{Means}
use Rattle.bac_npdu.specs.Peers.{PeerView}
use Rattle.bac_service.specs.Requests.{SpellsRequest}
use Rattle.bac_service.specs.Values.{Request, choice_of}
use Rattle.bac_store.specs.Changes.{after}
use Rattle.bac_store.specs.Replies.{reply_to}
use Rattle.bac_protocol.specs.declared.times.TheConstants.{DEADLINE}
use Rattle.bac_protocol.specs.Service.{Octets, Reply}
use Rattle.bac_protocol.specs.Service.Outcome.{Replies}
use Rattle.bac_protocol.specs.Sizes.{reply_way_of}
use Rattle.bac_protocol.specs.Sizes.Way.{InOne}
use Rattle.bac_protocol.specs.Wire.{is_from_server}
use Rattle.bac_protocol.specs.Client.{ClientTransaction}
use Rattle.bac_protocol.specs.Server.{ServerTransaction, reply_apdu}
use Rattle.bac_protocol.specs.Server.State.{Done}
use Rattle.bac_transaction.specs.Keys.{PeerKey}
use Rattle.bac_transaction.specs.Ends.{context_of, key_of}
use Rattle.bac_transaction.specs.Reuse.{is_read}
use Rattle.bac_transaction.specs.Services.{outcome_of}
use Rattle.bac_world.specs.Laws.{IsAnsweredOnly, IsEntry, SendsAlone}
use Rattle.bac_world.specs.Node.{Node, Outcome}
use Rattle.bac_world.specs.ReusingNodes.{NodeHears}
use Rattle.bac_liveness.specs.FreshRoundTrip.{BeginsOther, ServesRead}
use Rattle.bac_liveness.specs.WorldEnds.{Expires, HasTicketsApart, IsOpen}

-- a datagram that comes from another link and means that APDU of that peer was handed to a node of that setting
pub record GetsSo (reuse : Bool) (now : ℕ) (peer : PeerView) (a : Apdu) (old new : Node) (o : Outcome) : Type 0 where
  pub from : Octets
  pub octets : Octets
  pub foreign : from ≢ old.link
  pub means : Means SpellsApdu from octets peer a
  pub on : NodeHears reuse now from octets old new o

-- an APDU of a server that comes for an open ticket more than DEADLINE after its first sending ends it, once
abbrev pub AnswerEndsSo : Type 0
AnswerEndsSo =
    (reuse : Bool) (now : ℕ) (peer : PeerView) (a : Apdu) (old new : Node) (o : Outcome) → GetsSo reuse now peer a old new o → is_from_server a ≡ true
    → HasTicketsApart old → (number : ℕ) (t : ClientTransaction) → IsOpen old (key_of peer a) number t → DEADLINE < now - t.ask.first
    → Expires new (key_of peer a) number t o.ended

-- a request is performed, and the one datagram of its reply goes out; the client's end stays
pub record IsPerformedAnew (now : ℕ) (old new : Node) (o : Outcome) (key : PeerKey) (choice : ℕ) (r : Request) (reply : Reply) : Type 0 where
  pub sends : SendsAlone o key.peer (reply_apdu (context_of old.settings now key) choice reply ∷ [])
  pub performed : o.performed ≡ Some (record { key = key; request = r; reply = reply_to old.store r })
  pub store : new.store ≡ after old.store r
  pub latest : new.latest ≡ now
  pub clients : new.clients ≡ old.clients

-- A Confirmed-Request without SEG, whose service data spell a request, and whose reply, in octets, fits one APDU: a read is performed each time that it comes
-- where no entry of its key is live or that one is over, any other request where none is live and its address has a slot.
abbrev pub RequestIsPerformedAnew : Type 0
RequestIsPerformedAnew =
    (now : ℕ) (old new : Node) (o : Outcome) (key : PeerKey) (limits : Limits) (service : Octets) (r : Request)
    → GetsSo true now key.peer (ConfirmedRequest limits key.invoke_id None (choice_of r) service) old new o
    → ServesRead now key old.servers r ⊎ BeginsOther now key old.servers r → SpellsRequest (choice_of r) r service
    → (reply : Reply) → outcome_of (reply_to old.store r) ≡ Replies reply → reply_way_of old.settings limits reply ≡ InOne
    → IsPerformedAnew now old new o key (choice_of r) r reply

-- A Confirmed-Request without SEG that is no read, and comes again for its live entry, gets the reply of one APDU that is kept: nothing is performed.
abbrev pub RepeatIsRemembered : Type 0
RepeatIsRemembered =
    (now : ℕ) (old new : Node) (o : Outcome) (key : PeerKey) (choice : ℕ) (limits : Limits) (service : Octets)
    → GetsSo true now key.peer (ConfirmedRequest limits key.invoke_id None choice service) old new o → is_read choice ≡ false
    → (e : ServerTransaction) → IsEntry now old key e → e.request ≡ Some service → choice ≡ e.choice → (reply : Apdu) → e.state ≡ Done reply
    → IsAnsweredOnly now old new o key.peer reply
