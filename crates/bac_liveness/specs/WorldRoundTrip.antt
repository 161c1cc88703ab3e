-- One round trip suffices, in every world, for a request and a reply of one APDU: one copy of the request that reaches a server which can perform it then,
-- and one copy of the answer that this delivery sent.
use Rattle.std.specs.Prelude.{◌≡◌, ℕ, ◌-◌, ◌≤◌, true, List, [], ◌∷◌, ◌++◌, length, Some, None, slice_get}
use Rattle.bac_apdu.specs.Apdu.{Limits}
use Rattle.bac_service.specs.Values.{Request}
use Rattle.bac_service.specs.Replies.{Reply}
use Rattle.bac_store.specs.Replies.{reply_to}
use Rattle.bac_protocol.specs.declared.times.TheConstants.{DEADLINE}
use Rattle.bac_protocol.specs.Sizes.{request_way_of, reply_way_of}
use Rattle.bac_protocol.specs.Sizes.Way.{InOne}
use Rattle.bac_protocol.specs.Service as machine
use Rattle.bac_protocol.specs.Service.Outcome.{Replies}
use Rattle.bac_protocol.specs.Server.{live_entry}
use Rattle.bac_slots.specs.Slots.{value_at}
use Rattle.bac_transaction.specs.Keys.{same_key}
use Rattle.bac_transaction.specs.Meanings.Ending.{Answered}
use Rattle.bac_transaction.specs.Ends.{is_free}
use Rattle.bac_transaction.specs.Services.{outcome_of}
use Rattle.bac_world.specs.Node.{Node}
use Rattle.bac_world.specs.Once.{Fact, Has}
use Rattle.bac_world.specs.Once.Fact.{Performed, Ended}
use Rattle.bac_world.specs.World.{World, Copy, Event, WorldStep, WorldRun, IsAsked, RunsOn, told, is_deliverable, peer_at}
use Rattle.bac_world.specs.World.Event.{Deliver}
use Rattle.bac_liveness.specs.WorldRuns.{endings_of}

-- the copy of that number is deliverable
pub record MayArrive (overtake : ℕ) (w : World) (number : ℕ) (c : Copy) : Type 0 where
  pub at : slice_get w.copies number ≡ Some c
  pub arrives : is_deliverable overtake w.time.pace.life w.time.now number w.copies c ≡ true

-- a copy comes from the server, in the transaction of that client and invoke ID
pub record IsFromServer (client server invoke_id : ℕ) (c : Copy) : Type 0 where
  pub key : c.key ≡ record { client = client; server = server; invoke_id = invoke_id }
  pub from : c.from ≡ server

-- the ask's request goes in one APDU
abbrev pub IsWhole : (old : World) (client server : ℕ) (limits : Limits) (r : Request) (asked : World) → IsAsked old client server limits r asked → Type 0
IsWhole old client server limits r asked a = request_way_of a.before.settings limits a.asks.octets ≡ InOne

-- a copy is one of the request that was sent first: of its transaction, with its octets
pub record IsRequest (sent : List Copy) (c : Copy) : Type 0 where
  pub first : Copy
  pub is : sent ≡ first ∷ []
  pub key : c.key ≡ first.key
  pub octets : c.octets ≡ first.octets

-- the server can perform the request when it comes from that client: no entry is live, a slot is free, and its store's reply goes in one APDU
pub record CanPerform (now : ℕ) (client server : Node) (invoke_id : ℕ) (r : Request) : Type 0 where
  pub none : live_entry now (value_at same_key (record { peer = peer_at client.link; invoke_id = invoke_id }) server.servers.slots) ≡ None
  pub slot : is_free now server.servers ≡ true
  pub reply : machine.Reply
  pub outcome : outcome_of (reply_to server.store r) ≡ Replies reply
  pub way : reply_way_of server.settings client.settings.limits reply ≡ InOne

-- ask n was performed with a reply, and ended with that reply
pub record IsAnswered (n : ℕ) (r : Request) (log : List Fact) : Type 0 where
  pub reply : Reply
  pub performed : Has (Performed n r reply) log
  pub ended : Has (Ended n (Answered reply)) log

-- a copy of the request was delivered in world w: one answer was sent, and where, after any further events, it is delivered while the ask is open and in
-- time by its client's clock, and its client has not restarted, the ask is answered, whatever happens after that
pub record IsServed (overtake : ℕ) (old : World) (client : ℕ) (r : Request) (w served : World) : Type 0 where
  pub answer : Copy
  pub sent : served.copies ≡ w.copies ++ answer ∷ []
  pub answered : (between : List Event) (v answered : World) → WorldRun overtake served between v → RunsOn client between
      → endings_of (length old.notes) v.log ≡ 0 → told v client - told old client ≤ DEADLINE
      → MayArrive overtake v (length w.copies) answer → WorldStep overtake v (Deliver (length w.copies)) answered
      → (after : List Event) (last : World) → WorldRun overtake answered after last → IsAnswered (length old.notes) r last.log

-- of each ask of one APDU that this world accepts: each copy of its request that is delivered, after any events, while the ask is open and its server can
-- perform it
abbrev pub RoundTripSuffices : (overtake : ℕ) → World → Type 0
RoundTripSuffices overtake old =
    (client server : ℕ) (limits : Limits) (r : Request) (asked : World) → (a : IsAsked old client server limits r asked)
    → IsWhole old client server limits r asked a
    → (before : List Event) (w served : World) → WorldRun overtake asked before w → RunsOn client before → endings_of (length old.notes) w.log ≡ 0
    → (number : ℕ) (c : Copy) → MayArrive overtake w number c → IsRequest a.sent c
    → (node : Node) → slice_get w.nodes server ≡ Some node → CanPerform (told w server) a.before node a.accepted.invoke_id r
    → WorldStep overtake w (Deliver number) served → IsServed overtake old client r w served
