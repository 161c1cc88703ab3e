-- Repeats suffice, in every world, for a request of one APDU (clause 5.4.4.3): it is sent up to four times, T_OUT apart or more, and one that gets through with
-- its answer is enough.
use Rattle.std.specs.Prelude.{◌≡◌, ℕ, ◌+◌, ◌-◌, ◌<◌, ◌≤◌, ◌⊎◌, List, [], ◌∷◌, ◌++◌, length, Some, None, slice_get}
use Rattle.bac_apdu.specs.Apdu.{Limits}
use Rattle.bac_service.specs.Values.{Request}
use Rattle.bac_protocol.specs.declared.times.TheConstants.{T_OUT, DEADLINE}
use Rattle.bac_protocol.specs.Pace.{most}
use Rattle.bac_protocol.specs.Server.{live_entry}
use Rattle.bac_protocol.specs.Client.{ClientTransaction}
use Rattle.bac_protocol.specs.Client.Phase.{AwaitConfirmation}
use Rattle.bac_slots.specs.Slots.{value_at}
use Rattle.bac_transaction.specs.Keys.{same_key}
use Rattle.bac_world.specs.Node.{Node}
use Rattle.bac_world.specs.World.{World, Copy, Event, WorldStep, WorldRun, IsAsked, RunsOn, told, peer_at}
use Rattle.bac_world.specs.World.Event.{Deliver}
use Rattle.bac_liveness.specs.Repeats.{PATIENCE}
use Rattle.bac_liveness.specs.WorldRuns.{Throughout}
use Rattle.bac_liveness.specs.WorldRoundTrip.{MayArrive, IsFromServer, IsWhole, IsRequest, CanPerform, IsAnswered}
use Rattle.bac_liveness.specs.WorldEnds.{IsOpen}

-- a delivery of a copy of the ask's request to a server with no live entry for it finds a server that can perform it
abbrev pub FindsServer : (overtake : ℕ) → (server : ℕ) → Node → (invoke_id : ℕ) → Request → List Copy → World → Event → Type 0
FindsServer overtake server client invoke_id r sent w (Deliver number) =
    (c : Copy) → MayArrive overtake w number c → IsRequest sent c → (node : Node) → slice_get w.nodes server ≡ Some node
    → live_entry (told w server) (value_at same_key (record { peer = peer_at client.link; invoke_id = invoke_id }) node.servers.slots) ≡ None
    → CanPerform (told w server) client node invoke_id r
FindsServer overtake server client invoke_id r sent w _ = Unit {0}

-- its ticket is open at its client and waits for the answer; where its timer is due a repeat is left
pub record IsWaiting (w : World) (client : ℕ) (server_link : List ℕ) (invoke_id : ℕ) : Type 0 where
  pub node : Node
  pub at : slice_get w.nodes client ≡ Some node
  pub number : ℕ
  pub ticket : ClientTransaction
  pub there : IsOpen node (record { peer = peer_at server_link; invoke_id = invoke_id }) number ticket
  pub waits : ticket.phase ≡ AwaitConfirmation
  pub left : T_OUT ≤ told w client - ticket.since → 1 ≤ ticket.repeats

-- fewer milliseconds than PATIENCE have passed by the clock of a client that has not restarted
abbrev pub InPatience : (client : ℕ) → (old new : World) → Type 0
InPatience client old new = told new client < told old client + PATIENCE

-- no more real time has passed than may pass while a clock goes on by DEADLINE
abbrev pub IsSoon : (old new : World) → Type 0
IsSoon old new = new.time.now ≤ old.time.now + most new.time.pace DEADLINE

-- the next ask, of one APDU, is accepted; as long as each copy of its request that is delivered finds its server, and PATIENCE has not passed:
pub record IsRobust (overtake : ℕ) (old : World) (client server : ℕ) (limits : Limits) (r : Request) (asked : World)
    (a : IsAsked old client server limits r asked) : Type 0 where
  -- it is waited for or answered, whatever is lost, repeated, reordered or asked of others, where its client does not restart
  pub waits : (events : List Event) (w : World) (run : WorldRun overtake asked events w)
      → Throughout overtake (FindsServer overtake server a.before a.accepted.invoke_id r a.sent) asked events w run → RunsOn client events
      → InPatience client old w
      → IsWaiting w client a.link a.accepted.invoke_id ⊎ IsAnswered (length old.notes) r w.log
  -- each copy of its request that is delivered brings one answer, also where its client has restarted, so this is by real time
  pub brings : (events : List Event) (w : World) (run : WorldRun overtake asked events w)
      → Throughout overtake (FindsServer overtake server a.before a.accepted.invoke_id r a.sent) asked events w run → IsSoon old w
      → (number : ℕ) (c : Copy) → MayArrive overtake w number c → IsRequest a.sent c
      → FindsServer overtake server a.before a.accepted.invoke_id r a.sent w (Deliver number)
      → (served : World) → WorldStep overtake w (Deliver number) served
      → (answer : Copy)
      × (served.copies ≡ w.copies ++ answer ∷ []) × IsFromServer client server a.accepted.invoke_id answer
  -- and each answer that is delivered leaves it answered, where its client does not restart
  pub answers : (events : List Event) (w : World) (run : WorldRun overtake asked events w)
      → Throughout overtake (FindsServer overtake server a.before a.accepted.invoke_id r a.sent) asked events w run → RunsOn client events
      → InPatience client old w
      → (number : ℕ) (answer : Copy) → MayArrive overtake w number answer → IsFromServer client server a.accepted.invoke_id answer
      → (answered : World) → WorldStep overtake w (Deliver number) answered → IsAnswered (length old.notes) r answered.log

-- of each ask of one APDU that this world accepts
abbrev pub RepeatsSuffice : (overtake : ℕ) → World → Type 0
RepeatsSuffice overtake old =
    (client server : ℕ) (limits : Limits) (r : Request) (asked : World) → (a : IsAsked old client server limits r asked)
    → IsWhole old client server limits r asked a → IsRobust overtake old client server limits r asked a
