-- Each ask ends, at its node and in every world (own rule of this profile: nothing is waited for longer than DEADLINE).
use Rattle.std.specs.Prelude.{◌≡◌, ◌⊎◌, ℕ, suc, ◌-◌, ◌<◌, ◌≤◌, true, false, List, [], ◌∷◌, length, Some, slice_get, if◌then◌else◌, nat_eq}
use Rattle.bac_apdu.specs.Apdu.{Apdu, Limits}
use Rattle.bac_npdu.specs.Peers.{PeerView}
use Rattle.bac_service.specs.Values.{Request}
use Rattle.bac_protocol.specs.declared.times.TheConstants.{DEADLINE}
use Rattle.bac_protocol.specs.Wire.{is_from_server}
use Rattle.bac_protocol.specs.Client.{ClientTransaction, is_idle}
use Rattle.bac_slots.specs.Slots.{value_at}
use Rattle.bac_transaction.specs.Keys.{PeerKey, same_key}
use Rattle.bac_transaction.specs.Meanings.{EndedView}
use Rattle.bac_transaction.specs.Meanings.Ending.{Expired}
use Rattle.bac_transaction.specs.Ends.{key_of}
use Rattle.bac_transaction.specs.Ends.TransactionSlot.{Open, Closed}
use Rattle.bac_world.specs.Node.{Node, Outcome, NodeTick}
use Rattle.bac_world.specs.Laws.{Gets}
use Rattle.bac_world.specs.Keys.{HasKeysApart}
use Rattle.bac_world.specs.ReusingLogs.{Reuses}
use Rattle.bac_world.specs.ReusingWorlds.{WorldRunSo, WorldStepSo}
use Rattle.bac_world.specs.World.{World, Copy, Event, WorldStep, WorldRun, IsAsked, RunsOn, told}
use Rattle.bac_world.specs.World.Event.{Deliver, Tick}
use Rattle.bac_liveness.specs.WorldRuns.{endings_of}
use Rattle.bac_liveness.specs.WorldRoundTrip.{MayArrive, IsFromServer}

-- At a node.

-- a ticket of that number is open, in the transaction of that peer and invoke ID
abbrev pub IsOpen : Node → PeerKey → (number : ℕ) → ClientTransaction → Type 0
IsOpen n key number t = value_at same_key key n.clients.slots ≡ Some (record { number = number; held = Open t })

-- how many of these are endings of that ticket
abbrev pub finishes_of : ℕ → List EndedView → ℕ
finishes_of number [] = 0
finishes_of number (f ∷ fs) = if nat_eq f.ticket number then suc (finishes_of number fs) else finishes_of number fs

abbrev pub expired : (number : ℕ) → EndedView
expired number = record { ticket = number; how = Expired }

abbrev pub HasFinish : EndedView → List EndedView → Type 0
HasFinish f [] = ⊥
HasFinish f (g ∷ fs) = (g ≡ f) ⊎ HasFinish f fs

-- no two slots of a table have one key, no two open tickets one number, and what is open has not ended
pub record HasTicketsApart (n : Node) : Type 0 where
  pub keys : HasKeysApart n
  pub apart : (p q : PeerKey) (number : ℕ) (t u : ClientTransaction) → IsOpen n p number t → IsOpen n q number u → p ≡ q
  pub going : (p : PeerKey) (number : ℕ) (t : ClientTransaction) → IsOpen n p number t → is_idle t.phase ≡ false

-- a ticket's end, and the slot that remembers it
pub record Expires (n : Node) (key : PeerKey) (number : ℕ) (t : ClientTransaction) (ended : List EndedView) : Type 0 where
  pub has : HasFinish (expired number) ended
  pub once : finishes_of number ended ≡ 1
  pub closed : value_at same_key key n.clients.slots ≡ Some (record { number = number; held = Closed t.ask.first })

-- a tick leaves no ticket open whose first sending is more than DEADLINE ago; each that was open ends in that tick, once
pub record TickEnds : Type 0 where
  pub leaves : (now : ℕ) (old new : Node) (o : Outcome) → NodeTick now old new o → (key : PeerKey) (number : ℕ) (t : ClientTransaction)
      → IsOpen new key number t
      → now - t.ask.first ≤ DEADLINE
  pub ends : (now : ℕ) (old new : Node) (o : Outcome) → NodeTick now old new o → HasTicketsApart old → (key : PeerKey) (number : ℕ) (t : ClientTransaction)
      → IsOpen old key number t → DEADLINE < now - t.ask.first → Expires new key number t o.ended

-- and so does each APDU of a server that comes for it
abbrev pub AnswerEnds : Type 0
AnswerEnds =
    (now : ℕ) (peer : PeerView) (a : Apdu) (old new : Node) (o : Outcome) → Gets now peer a old new o → is_from_server a ≡ true → HasTicketsApart old
    → (number : ℕ) (t : ClientTransaction) → IsOpen old (key_of peer a) number t → DEADLINE < now - t.ask.first → Expires new (key_of peer a) number t o.ended

-- In every world.

-- the next ask is accepted: until DEADLINE and beyond it ends at most once; a tick of its client more than DEADLINE later by its own clock, or a copy of its
-- server's in this transaction that is delivered then, leaves it ended, once, for good, whatever happens in between, but for a restart of its client, and
-- afterwards; steps and runs are those of worlds of either rule
pub record EndsIn (Step : World → Event → World → Type 0) (Run : World → List Event → World → Type 0) (overtake : ℕ) (old : World)
    (client server : ℕ) (invoke_id : ℕ) (asked : World) : Type 0 where
  pub before : (events : List Event) (w : World) → Run asked events w → endings_of (length old.notes) w.log ≤ 1
  pub tick : (between : List Event) (late ticked : World) → Run asked between late → RunsOn client between
      → DEADLINE < told late client - told old client
      → Step late (Tick client) ticked
      → (after : List Event) (w : World) → Run ticked after w → endings_of (length old.notes) w.log ≡ 1
  pub answer : (between : List Event) (late answered : World) → Run asked between late → RunsOn client between
      → DEADLINE < told late client - told old client
      → (number : ℕ) (c : Copy) → MayArrive overtake late number c → IsFromServer client server invoke_id c → Step late (Deliver number) answered
      → (after : List Event) (w : World) → Run answered after w → endings_of (length old.notes) w.log ≡ 1

-- so does each ask that this world accepts
abbrev pub AsksEndIn : (Step : World → Event → World → Type 0) (Run : World → List Event → World → Type 0) → (overtake : ℕ) → World → Type 0
AsksEndIn Step Run overtake old =
    (client server : ℕ) (limits : Limits) (r : Request) (asked : World) → (a : IsAsked old client server limits r asked)
    → EndsIn Step Run overtake old client server a.accepted.invoke_id asked

-- where no node lets invoke IDs be used again
abbrev pub EndsInTime : (overtake : ℕ) → World → (client server : ℕ) → (invoke_id : ℕ) → World → Type 0
EndsInTime overtake = EndsIn (WorldStep overtake) (WorldRun overtake) overtake

abbrev pub AsksEnd : (overtake : ℕ) → World → Type 0
AsksEnd overtake old = AsksEndIn (WorldStep overtake) (WorldRun overtake) overtake old

-- where these nodes do
abbrev pub AsksEndSo : (overtake : ℕ) → Reuses → World → Type 0
AsksEndSo overtake u old = AsksEndIn (WorldStepSo overtake u) (WorldRunSo overtake u) overtake old

-- each node of a world
abbrev pub NodesAreInOrder : World → Type 0
NodesAreInOrder w = (i : ℕ) (n : Node) → slice_get w.nodes i ≡ Some n → HasTicketsApart n
