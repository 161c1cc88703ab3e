-- One round trip at a server of fresh reads (clause 5.4), in every world, for a request and a reply of one APDU. Such a server performs a read each time that it
-- comes, so the answer is the reply of its store as it is then; all else is performed once, and remembered.
use Rattle.std.specs.Prelude.{◌≡◌, ◌⊎◌, ℕ, suc, ◌-◌, ◌≤◌, true, false, List, [], ◌∷◌, ◌++◌, length, Some, slice_get}
use Rattle.bac_apdu.specs.Apdu.{Limits}
use Rattle.bac_service.specs.Values.{Request, choice_of}
use Rattle.bac_store.specs.Replies.{reply_to}
use Rattle.bac_protocol.specs.declared.times.TheConstants.{DEADLINE}
use Rattle.bac_protocol.specs.Sizes.{reply_way_of}
use Rattle.bac_protocol.specs.Sizes.Way.{InOne}
use Rattle.bac_protocol.specs.Service as machine
use Rattle.bac_protocol.specs.Service.Outcome.{Replies}
use Rattle.bac_protocol.specs.Client.{ClientTransaction}
use Rattle.bac_protocol.specs.Client.Phase.{AwaitConfirmation}
use Rattle.bac_protocol.specs.Reuse.{is_over}
use Rattle.bac_protocol.specs.Server.{ServerTransaction, is_live, is_none_live}
use Rattle.bac_slots.specs.Slots.{value_at}
use Rattle.bac_transaction.specs.Keys.{PeerKey, same_key}
use Rattle.bac_transaction.specs.Meanings.Ending.{Answered}
use Rattle.bac_transaction.specs.Ends.{ServerEnd}
use Rattle.bac_transaction.specs.Reuse.{is_read}
use Rattle.bac_transaction.specs.Services.{outcome_of}
use Rattle.bac_transaction.specs.Sharing.{may_begin}
use Rattle.bac_world.specs.Node.{Node}
use Rattle.bac_world.specs.Once.{Fact, Has}
use Rattle.bac_world.specs.Once.Fact.{Performed, Ended}
use Rattle.bac_world.specs.ReusingLogs.{Reuses}
use Rattle.bac_world.specs.ReusingWorlds.{WorldRunSo, WorldStepSo}
use Rattle.bac_world.specs.World.{World, Copy, Event, IsAsked, RunsOn, told, peer_at}
use Rattle.bac_world.specs.World.Event.{Deliver}
use Rattle.bac_liveness.specs.WorldEnds.{IsOpen}
use Rattle.bac_liveness.specs.WorldRoundTrip.{IsRequest, IsWhole, MayArrive}
use Rattle.bac_liveness.specs.WorldRuns.{endings_of}

-- a live entry of that key is over
pub record HasOver (now : ℕ) (key : PeerKey) (e : ServerEnd) : Type 0 where
  pub entry : ServerTransaction
  pub at : value_at same_key key e.slots ≡ Some entry
  pub live : is_live now entry ≡ true
  pub over : is_over entry.state ≡ true

-- a read is served where no entry of its key is live or that one is over; it needs no slot
pub record ServesRead (now : ℕ) (key : PeerKey) (e : ServerEnd) (r : Request) : Type 0 where
  pub read : is_read (choice_of r) ≡ true
  pub idle : (is_none_live now (value_at same_key key e.slots) ≡ true) ⊎ HasOver now key e

-- any other request begins an entry, where none of its key is live, and its address has a slot
pub record BeginsOther (now : ℕ) (key : PeerKey) (e : ServerEnd) (r : Request) : Type 0 where
  pub other : is_read (choice_of r) ≡ false
  pub none : is_none_live now (value_at same_key key e.slots) ≡ true
  pub place : may_begin true false now key e ≡ true

-- such a server performs the request when it comes from that client, and its store's reply goes in one APDU
pub record PerformsNow (now : ℕ) (client server : Node) (invoke_id : ℕ) (r : Request) : Type 0 where
  pub serves : ServesRead now (record { peer = peer_at client.link; invoke_id = invoke_id }) server.servers r
      ⊎ BeginsOther now (record { peer = peer_at client.link; invoke_id = invoke_id }) server.servers r
  pub reply : machine.Reply
  pub outcome : outcome_of (reply_to server.store r) ≡ Replies reply
  pub way : reply_way_of server.settings client.settings.limits reply ≡ InOne

-- an ask waits at its client, to which nothing came of its server that it goes on with
pub record Awaits (w : World) (client : ℕ) (server_link : List ℕ) (invoke_id : ℕ) : Type 0 where
  pub node : Node
  pub at : slice_get w.nodes client ≡ Some node
  pub number : ℕ
  pub ticket : ClientTransaction
  pub there : IsOpen node (record { peer = peer_at server_link; invoke_id = invoke_id }) number ticket
  pub waits : ticket.phase ≡ AwaitConfirmation

-- A copy of the request of ask n was delivered in world w: it was performed with the reply of the server's store as it was then, and that answer alone was
-- sent. Where it is delivered after any further events, while the ask is open, waits and is in time by its client's clock, and its client has not
-- restarted, the ask has ended with it, whatever happens after that
pub record IsServedAnew (overtake : ℕ) (u : Reuses) (old : World) (client : ℕ) (server_link : List ℕ) (invoke_id : ℕ) (r : Request) (node : Node)
    (w served : World) : Type 0 where
  pub performed : Has (Performed (length old.notes) r (reply_to node.store r)) served.log
  pub answer : Copy
  pub sent : served.copies ≡ w.copies ++ answer ∷ []
  pub answered : (between : List Event) (v answered : World) → WorldRunSo overtake u served between v → RunsOn client between
      → endings_of (length old.notes) v.log ≡ 0 → Awaits v client server_link invoke_id → told v client - told old client ≤ DEADLINE
      → MayArrive overtake v (length w.copies) answer → WorldStepSo overtake u v (Deliver (length w.copies)) answered
      → (after : List Event) (last : World) → WorldRunSo overtake u answered after last
      → Has (Ended (length old.notes) (Answered (reply_to node.store r))) last.log

-- of each ask of one APDU of a server of fresh reads that this world accepts: each copy of its request that is delivered, after any events, while the ask is
-- open and its server performs it, also where it is a read that was performed before
abbrev pub RoundTripSufficesAnew : (overtake : ℕ) → Reuses → World → Type 0
RoundTripSufficesAnew overtake u old =
    (client server : ℕ) (limits : Limits) (r : Request) (asked : World) → (a : IsAsked old client server limits r asked)
    → IsWhole old client server limits r asked a → u server ≡ true
    → (before : List Event) (w served : World) → WorldRunSo overtake u asked before w → RunsOn client before → endings_of (length old.notes) w.log ≡ 0
    → (number : ℕ) (c : Copy) → MayArrive overtake w number c → IsRequest a.sent c
    → (node : Node) → slice_get w.nodes server ≡ Some node → PerformsNow (told w server) a.before node a.accepted.invoke_id r
    → WorldStepSo overtake u w (Deliver number) served → IsServedAnew overtake u old client a.link a.accepted.invoke_id r node w served

-- A new ask at such a server, over a network that delivers: its invoke ID is free, so no entry of it is live there. Where it is a read, or its address has a
-- slot, and the reply of the server's store goes in one APDU, the delivery of the request and then of its answer end it with that reply.
pub record IsPlaced (now : ℕ) (client server : Node) (invoke_id : ℕ) (r : Request) : Type 0 where
  pub place : (is_read (choice_of r) ≡ true)
      ⊎ (may_begin true false now (record { peer = peer_at client.link; invoke_id = invoke_id }) server.servers ≡ true)
  pub reply : machine.Reply
  pub outcome : outcome_of (reply_to server.store r) ≡ Replies reply
  pub way : reply_way_of server.settings client.settings.limits reply ≡ InOne

-- it was performed with the reply of the store, and ended with that
pub record EndsWith (n : ℕ) (r : Request) (node : Node) (log : List Fact) : Type 0 where
  pub performed : Has (Performed n r (reply_to node.store r)) log
  pub ended : Has (Ended n (Answered (reply_to node.store r))) log

abbrev pub NewAskIsAnswered : (overtake : ℕ) → Reuses → World → Type 0
NewAskIsAnswered overtake u old =
    (client server : ℕ) (limits : Limits) (r : Request) (asked : World) → (a : IsAsked old client server limits r asked)
    → IsWhole old client server limits r asked a → u server ≡ true
    → (node : Node) → slice_get old.nodes server ≡ Some node → IsPlaced (told old server) a.before node a.accepted.invoke_id r
    → (new : World) → WorldRunSo overtake u asked (Deliver (length old.copies) ∷ Deliver (suc (length old.copies)) ∷ []) new
    → EndsWith (length old.notes) r node new.log
