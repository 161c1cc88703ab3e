-- The straight run: each copy that arises from an ask is delivered once, in order of sending, at one moment, until its ticket has ended or no copy is left.
use Rattle.std.specs.Prelude.{◌≡◌, ◌⊎◌, ℕ, zero, suc, ◌+◌, ◌-◌, ◌≤◌, Bool, true, false, List, [], ◌∷◌, length, Option, Some, None, slice_get, if◌then◌else◌}
use Rattle.std.specs.Prelude.{nat_eq}
use Rattle.bac_apdu.specs.Apdu.{Limits}
use Rattle.bac_service.specs.Values.{Request}
use Rattle.bac_protocol.specs.Transaction.{Key}
use Rattle.bac_slots.specs.Slots.{value_at}
use Rattle.bac_transaction.specs.Keys.{PeerKey, same_key}
use Rattle.bac_transaction.specs.Meanings.{Ending}
use Rattle.bac_transaction.specs.Ends.{Client, TransactionSlot}
use Rattle.bac_transaction.specs.Ends.TransactionSlot.{Open, Closed}
use Rattle.bac_world.specs.Node.{Node}
use Rattle.bac_world.specs.Once.{Fact}
use Rattle.bac_world.specs.Once.Fact.{Asked, Performed, Ended, Changed, Restarted, Served, AskedAway, EndedAway}
use Rattle.bac_world.specs.World.{World, Copy, Event, WorldStep, WorldRun, IsAsked, peer_at}
use Rattle.bac_world.specs.World.Event.{Ask, Deliver}

-- Whether a ticket is open.

abbrev pub is_open_ticket : TransactionSlot → Bool
is_open_ticket (Open t) = true
is_open_ticket (Closed first) = false

abbrev pub is_open_slot : Option Client → Bool
is_open_slot None = false
is_open_slot (Some s) = is_open_ticket s.held

abbrev pub is_open_at : PeerKey → Option Node → Bool
is_open_at key None = false
is_open_at key (Some n) = is_open_slot (value_at same_key key n.clients.slots)

-- the ticket that a client has at a key is open
abbrev pub is_open : World → (client : ℕ) → PeerKey → Bool
is_open w client key = is_open_at key (slice_get w.nodes client)

-- How an ask ended, if it has.
abbrev pub ending_in : (ask : ℕ) → List Fact → Option Ending
ending_in n [] = None
ending_in n (Asked m c s r ∷ log) = ending_in n log
ending_in n (Performed m r p ∷ log) = ending_in n log
ending_in n (Ended m how ∷ log) = if nat_eq m n then Some how else ending_in n log
ending_in n (Changed i c ∷ log) = ending_in n log
ending_in n (Restarted i o ∷ log) = ending_in n log
ending_in n (Served q i d b r p ∷ log) = ending_in n log
ending_in n (AskedAway m c q r ∷ log) = ending_in n log
ending_in n (EndedAway m how ∷ log) = ending_in n log

-- so many copies are delivered, from that number on, each while the ticket is open
abbrev pub DeliverEach : (overtake client : ℕ) → PeerKey → (count number : ℕ) → (old new : World) → Type 0
DeliverEach overtake client key zero number old new = new ≡ old
DeliverEach overtake client key (suc count) number old new =
    (is_open old client key ≡ true)
    × (u : World)
    × WorldStep overtake old (Deliver number) u
    × DeliverEach overtake client key count (suc number) u new

-- the key of an accepted ask at its client
abbrev pub key_of_ask : (old : World) (client server : ℕ) (limits : Limits) (r : Request) (new : World) → IsAsked old client server limits r new → PeerKey
key_of_ask old client server limits r new asks = record { peer = peer_at asks.link; invoke_id = asks.accepted.invoke_id }

-- an ask of a peer that takes so much is accepted; then so many deliveries of what arises from it, until it stops; and that is how the ask ended
pub record IsStraight (overtake : ℕ) (old : World) (client server : ℕ) (limits : Limits) (r : Request) (ending : Option Ending) (count : ℕ)
    (new : World) : Type 0 where
  pub asked : World
  pub asks : IsAsked old client server limits r asked
  pub delivers : DeliverEach overtake client (key_of_ask old client server limits r asked asks) count (length old.copies) asked new
  pub stops : (is_open new client (key_of_ask old client server limits r asked asks) ≡ false) ⊎ (length new.copies ≤ length old.copies + count)
  pub ending_is : ending ≡ ending_in (length old.notes) new.log

-- Whose copies arise.

-- each copy from that number on is of that transaction
abbrev pub AreOf : Key → (first : ℕ) → List Copy → Type 0
AreOf key first copies = (number : ℕ) (c : Copy) → first ≤ number → slice_get copies number ≡ Some c → c.key ≡ key

-- the ask's, in each straight run of that world
abbrev pub CopiesAreItsOwn : (overtake : ℕ) → World → Type 0
CopiesAreItsOwn overtake old =
    (client server : ℕ) (limits : Limits) (r : Request) (ending : Option Ending) (count : ℕ) (new : World)
    → (run : IsStraight overtake old client server limits r ending count new)
    → AreOf (record { client = client; server = server; invoke_id = run.asks.accepted.invoke_id }) (length old.copies) new.copies

-- It is a run.

-- so many deliveries one after another
abbrev pub deliveries : (count number : ℕ) → List Event
deliveries zero number = []
deliveries (suc count) number = Deliver number ∷ deliveries count (suc number)

-- of its ask and of as many deliveries
abbrev pub IsRunOfDeliveries : (overtake : ℕ) → World → Type 0
IsRunOfDeliveries overtake old =
    (client server : ℕ) (limits : Limits) (r : Request) (ending : Option Ending) (count : ℕ) (new : World)
    → IsStraight overtake old client server limits r ending count new
    → WorldRun overtake old (Ask client server limits r ∷ deliveries count (length old.copies)) new

-- what a loop over the copies needs, where `number` is that of the next one: it has delivered none, it delivers one more, and where it stops it was a
-- straight run, with the ending that the log has
pub record DeliveriesGoOn : Type 0 where
  pub first : (overtake client : ℕ) (key : PeerKey) (first : ℕ) (w : World) → DeliverEach overtake client key (first - first) first w w
  pub next : (overtake client : ℕ) (key : PeerKey) (first number : ℕ) (w u v : World) → first ≤ number
      → DeliverEach overtake client key (number - first) first w u → is_open u client key ≡ true → WorldStep overtake u (Deliver number) v
      → DeliverEach overtake client key (number + 1 - first) first w v
  pub ends : (overtake : ℕ) (old : World) (client server : ℕ) (limits : Limits) (r : Request) (asked : World)
      → (asks : IsAsked old client server limits r asked) (number : ℕ) (new : World) → length old.copies ≤ number
      → DeliverEach overtake client (key_of_ask old client server limits r asked asks) (number - length old.copies) (length old.copies) asked new
      → (is_open new client (key_of_ask old client server limits r asked asks) ≡ false) ⊎ (length new.copies ≤ number)
      → IsStraight overtake old client server limits r (ending_in (length old.notes) new.log) (number - length old.copies) new
