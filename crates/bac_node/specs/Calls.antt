-- What a call of a node does.
use Rattle.std.specs.Prelude.{◌≡◌, ◌≢◌, ◌⊎◌, ◌<◌, ◌++◌, ℕ, false, map}
use Rattle.bac_npdu.specs.Peers.{PeerView}
use Rattle.bac_apdu.specs.Apdu.{Apdu, Limits}
use Rattle.bac_apdu.specs.Spelling.{SpellsApdu}
use Rattle.bac_npdu.specs.Datagram.{Means}
use Rattle.bac_service.specs.Requests.{SpellsRequest}
use Rattle.bac_service.specs.Values.{Request, choice_of}
use Rattle.bac_protocol.specs.Service.{Octets}
use Rattle.bac_protocol.specs.Sizes.{RequestFault}
use Rattle.bac_protocol.specs.Wire.{is_from_client}
use Rattle.bac_transaction.specs.Ends.{Accepted, AskOutcome, AskRefusal, CannotGo, ClientEnd, key_of, requester_ask, requester_tick, responder_tick}
use Rattle.bac_transaction.specs.Meanings.{IsEndedView}
use Rattle.bac_transaction.specs.Sends.{IsSent, Pairwise}
use Rattle.bac_requester.specs.Reactions.{HasNoneOpen}
use Rattle.bac_requester.specs.Views.{ended_view}
use Rattle.bac_requester.specs.declared.ask_fault.AskFault.{AskFault}
use Rattle.bac_requester.specs.declared.ask_fault.AskFault.TheVariants as fault
use Rattle.bac_requester.specs.declared.asking.Asked.{Asked}
use Rattle.bac_requester.specs.declared.reaction.Reaction.{Reaction}
use Rattle.bac_world.specs.Node.{Node, Refusal, NodeAsks, NodeRefuses}
use Rattle.bac_world.specs.Laws.{IsMeaningless}

-- a datagram that a node drops: it comes from the node's own link, or means no APDU of a peer
abbrev pub IsNotHeard : (link from octets : Octets) → Type 0
IsNotHeard link from octets = (from ≡ link) ⊎ IsMeaningless from octets

-- each APDU that a datagram means is for the client's end, which has no transaction open for it
abbrev pub IsForNoneOpen : (from octets : Octets) → ClientEnd → Type 0
IsForNoneOpen from octets e = (peer : PeerView) (a : Apdu) → Means SpellsApdu from octets peer a → (is_from_client a ≡ false) × HasNoneOpen e (key_of peer a)

-- the node after a tick
abbrev pub ticked : (now : ℕ) → Node → Node
ticked now n =
    record n {
      latest = now;
      clients = (requester_tick n.settings now n.clients).end;
      servers = (responder_tick n.settings now n.servers).end;
    }

-- what a tick of both ends sends and ends
pub record IsTickOfBoth (now : ℕ) (n : Node) (x : Reaction) : Type 0 where
  pub sends : Pairwise IsSent ((requester_tick n.settings now n.clients).sends ++ (responder_tick n.settings now n.servers).sends) x.sends.items
  pub ended : Pairwise IsEndedView (requester_tick n.settings now n.clients).ended (map ended_view x.ended.items)

-- An ask.

-- it was accepted, with this ticket and this invoke ID
pub record IsAsked (now : ℕ) (peer : PeerView) (limits : Limits) (r : Request) (old new : Node) (x : Asked) : Type 0 where
  pub accepted : Accepted
  pub asks : NodeAsks now peer limits r old new accepted x.sends.items
  pub ticket : x.ticket ≡ accepted.ticket
  pub invoke_id : x.invoke_id ≡ accepted.invoke_id

-- it would be accepted, if memory could be allocated
pub record WouldAsk (now : ℕ) (peer : PeerView) (limits : Limits) (r : Request) (n : Node) : Type 0 where
  pub octets : Octets
  pub spelled : SpellsRequest (choice_of r) r octets
  pub foreign : peer.link ≢ n.link
  pub accepted : Accepted
  pub asks : requester_ask n.settings now peer limits (choice_of r) octets n.clients ≡ AskOutcome.Asked accepted

-- the fault says why it was refused
abbrev pub Refuses : AskFault → (now : ℕ) → PeerView → Limits → Request → Node → Type 0
Refuses fault.ClockBack now peer limits r n = now < n.latest
Refuses fault.SelfPeer now peer limits r n = NodeRefuses now peer limits r n Refusal.SelfPeer
Refuses fault.TooLong now peer limits r n = NodeRefuses now peer limits r n (Refusal.CannotAsk (CannotGo RequestFault.TooLong))
Refuses fault.NeedsSegments now peer limits r n = NodeRefuses now peer limits r n (Refusal.CannotAsk (CannotGo RequestFault.NeedsSegments))
Refuses fault.NoInvokeId now peer limits r n = NodeRefuses now peer limits r n (Refusal.CannotAsk AskRefusal.NoInvokeId)
Refuses fault.NoSlot now peer limits r n = NodeRefuses now peer limits r n (Refusal.CannotAsk AskRefusal.NoSlot)
Refuses fault.NoMemory now peer limits r n = WouldAsk now peer limits r n
