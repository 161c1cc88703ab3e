-- What each call of an end keeps of its table. Each record here is proved as a law.
use Rattle.std.specs.Prelude.{◌≡◌, ℕ, ◌+◌, ◌-◌, ◌<◌, ◌≤◌, ◌↔◌, Bool, true, false, ◌&&◌, not, if◌then◌else◌, nat_le, List, [], ◌∷◌, length, Option, Some, None}
use Rattle.std.specs.Option.{option_map}
use Rattle.bac_apdu.specs.Apdu.{Apdu, Limits}
use Rattle.bac_apdu.specs.Apdu.Apdu.{ConfirmedRequest, Abort}
use Rattle.bac_npdu.specs.Peers.{PeerView}
use Rattle.bac_slots.specs.declared.slot.Slot.{Slot}
use Rattle.bac_slots.specs.Slots.{value_at, keep, EachSlot, IsDistinct}
use Rattle.bac_protocol.specs.Context.{Settings}
use Rattle.bac_protocol.specs.Own.{invoke_id_of}
use Rattle.bac_protocol.specs.Sizes.{Way, RequestFault, request_way_of}
use Rattle.bac_protocol.specs.Sizes.Way.{InOne, InSegments, Refused}
use Rattle.bac_protocol.specs.Service.{Octets, Readable, OTHER}
use Rattle.bac_protocol.specs.Server.{Service, ServerTransaction, is_live, is_none_live, server_ticks}
use Rattle.bac_transaction.specs.Keys.{PeerKey, same_key}
use Rattle.bac_transaction.specs.Sends.{to_peer}
use Rattle.bac_transaction.specs.Ends.{Client, ClientEnd, Accepted, AskRefusal, AskOutcome, ServerSlot, ServerEnd, ServerTurn}
use Rattle.bac_transaction.specs.Ends.{is_held, is_id_taken, least_not, free_id, has_no_slot, context_of, key_of, held_ticked, entry_or, is_free}
use Rattle.bac_transaction.specs.Ends.{requester_on_apdu, requester_tick, requester_ask, responder_on_apdu, responder_tick}

-- a table in order: no two slots have one key, and there are no more than it can have
pub record IsOrderly (T : Type 0) (slots : List (Slot PeerKey T)) (capacity : ℕ) : Type 0 where
  pub distinct : IsDistinct same_key slots
  pub within : length slots ≤ capacity

-- The client's end (clause 5.4.4).

abbrev pub IsOrderlyClient : ClientEnd → Type 0
IsOrderlyClient e = IsOrderly Client e.slots e.capacity

-- a client's table stays in order, whatever comes, is due or is asked
pub record ClientStaysOrderly : Type 0 where
  pub hears : (c : Settings) (readable : Readable) (now : ℕ) (peer : PeerView) (a : Apdu) (e : ClientEnd) → IsOrderlyClient e
      → IsOrderlyClient (requester_on_apdu c readable now peer a e).end
  pub ticks : (c : Settings) (now : ℕ) (e : ClientEnd) → IsOrderlyClient e → IsOrderlyClient (requester_tick c now e).end
  pub asks : (c : Settings) (now : ℕ) (peer : PeerView) (limits : Limits) (choice : ℕ) (octets : Octets) (e : ClientEnd) (x : Accepted)
      → requester_ask c now peer limits choice octets e ≡ AskOutcome.Asked x → IsOrderlyClient e → IsOrderlyClient x.end

-- a slot after a tick, where there is one
abbrev pub client_ticked_at : Settings → (now : ℕ) → PeerKey → Option Client → Option Client
client_ticked_at c now q o = option_map (λ (s : Client). held_ticked (context_of c now q) s.number s.held) o

-- an APDU touches the slot of its key alone; on a tick each slot goes on by itself; an ask lets all held slots as they are, and the others go
pub record ClientOthersStay : Type 0 where
  pub hears : (c : Settings) (readable : Readable) (now : ℕ) (peer : PeerView) (a : Apdu) (e : ClientEnd) (q : PeerKey)
      → same_key (key_of peer a) q ≡ false → value_at same_key q (requester_on_apdu c readable now peer a e).end.slots ≡ value_at same_key q e.slots
  pub ticks : (c : Settings) (now : ℕ) (e : ClientEnd) (q : PeerKey)
      → value_at same_key q (requester_tick c now e).end.slots ≡ client_ticked_at c now q (value_at same_key q e.slots)
  pub asks : (c : Settings) (now : ℕ) (peer : PeerView) (limits : Limits) (choice : ℕ) (octets : Octets) (e : ClientEnd) (x : Accepted) (q : PeerKey)
      → requester_ask c now peer limits choice octets e ≡ AskOutcome.Asked x → IsDistinct same_key e.slots
      → same_key (record { peer = peer; invoke_id = x.invoke_id }) q ≡ false
      → value_at same_key q x.end.slots ≡ keep (λ (s : Client). is_held now s.held) (value_at same_key q e.slots)

-- how many invoke IDs come before that one, from the first one on and around after 255
abbrev pub steps_to : (first invoke_id : ℕ) → ℕ
steps_to first invoke_id = if nat_le first invoke_id then invoke_id - first else invoke_id + 256 - first

-- an invoke ID that is not taken for the peer, and those that come before it are, from the end's first one on
pub record IsLeastFree (now : ℕ) (e : ClientEnd) (peer : PeerView) (invoke_id : ℕ) : Type 0 where
  pub octet : invoke_id < 256
  pub free : is_id_taken now e peer invoke_id ≡ false
  pub least : (n : ℕ) → n < 256 → steps_to e.first_id n < steps_to e.first_id invoke_id → is_id_taken now e peer n ≡ true

-- an accepted ask has that one (clause 5.4.1: no two transactions of one pair of peers have one invoke ID at a time)
abbrev pub TakesLeastFree : Type 0
TakesLeastFree =
    (c : Settings) (now : ℕ) (peer : PeerView) (limits : Limits) (choice : ℕ) (octets : Octets) (e : ClientEnd) (x : Accepted)
    → requester_ask c now peer limits choice octets e ≡ AskOutcome.Asked x → IsLeastFree now e peer x.invoke_id

abbrev pub CanGo : Way RequestFault → Type 0
CanGo InOne = Unit {0}
CanGo (InSegments pieces) = Unit {0}
CanGo (Refused why) = ⊥

-- where invoke IDs begin at 0, it is the least of all that are free
abbrev pub TakesLeastFromZero : Type 0
TakesLeastFromZero = (now : ℕ) (peer : PeerView) (e : ClientEnd) → e.first_id ≡ 0 → free_id now e peer ≡ least_not (is_id_taken now e peer) 256 0

-- all 256 invoke IDs are held for the peer, or the end waits after a restart
abbrev pub AllTaken : (now : ℕ) → ClientEnd → PeerView → Type 0
AllTaken now e peer = (n : ℕ) → n < 256 → is_id_taken now e peer n ≡ true

-- one of them is free
abbrev pub OneFree : (now : ℕ) → ClientEnd → PeerView → Type 0
OneFree now e peer = (n : ℕ) × (n < 256) × (is_id_taken now e peer n ≡ false)

-- when an ask is refused, and why: its request can't go; it can, but all invoke IDs of the peer are taken; or one is free, but no slot
pub record RefusesAsks (c : Settings) (now : ℕ) (peer : PeerView) (limits : Limits) (choice : ℕ) (octets : Octets) (e : ClientEnd) : Type 0 where
  pub cannot_go : (why : RequestFault)
      → (requester_ask c now peer limits choice octets e ≡ AskOutcome.Refused (AskRefusal.CannotGo why)) ↔ (request_way_of c limits octets ≡ Refused why)
  pub no_invoke_id : (requester_ask c now peer limits choice octets e ≡ AskOutcome.Refused AskRefusal.NoInvokeId)
      ↔ (CanGo (request_way_of c limits octets) × AllTaken now e peer)
  pub no_slot : (requester_ask c now peer limits choice octets e ≡ AskOutcome.Refused AskRefusal.NoSlot)
      ↔ (CanGo (request_way_of c limits octets) × OneFree now e peer × (has_no_slot now e ≡ true))

-- The server's end (clause 5.4.5).

abbrev pub IsOrderlyServer : ServerEnd → Type 0
IsOrderlyServer e = IsOrderly ServerTransaction e.slots e.capacity

-- a reply table stays in order, whatever comes or is due
pub record ServerStaysOrderly : Type 0 where
  pub hears : (c : Settings) (now : ℕ) (service : Service) (peer : PeerView) (a : Apdu) (e : ServerEnd) → IsOrderlyServer e
      → IsOrderlyServer (responder_on_apdu c now service peer a e).end
  pub ticks : (c : Settings) (now : ℕ) (e : ServerEnd) → IsOrderlyServer e → IsOrderlyServer (responder_tick c now e).end

-- a new entry comes at that key: none was live there, and now one is
abbrev pub comes_new : (now : ℕ) → PeerKey → (before after : List ServerSlot) → Bool
comes_new now key before after = is_none_live now (value_at same_key key before) && not (is_none_live now (value_at same_key key after))

-- an entry after a tick, where there is one
abbrev pub server_ticked_at : Settings → (now : ℕ) → PeerKey → Option ServerTransaction → Option ServerTransaction
server_ticked_at c now q o = option_map (λ (x : ServerTransaction). entry_or x (server_ticks (context_of c now q) (Some x)).entry) o

-- an APDU touches the entry of its key alone; of the others those that are not live leave exactly when a new one comes; on a tick each goes on by itself,
-- or leaves if it is not live
pub record ServerOthersStay : Type 0 where
  pub hears : (c : Settings) (now : ℕ) (service : Service) (peer : PeerView) (a : Apdu) (e : ServerEnd) (q : PeerKey)
      → IsDistinct same_key e.slots → same_key (key_of peer a) q ≡ false
      → value_at same_key q (responder_on_apdu c now service peer a e).end.slots
      ≡ (if comes_new now (key_of peer a) e.slots (responder_on_apdu c now service peer a e).end.slots then keep (is_live now) (value_at same_key q e.slots)
      else value_at same_key q e.slots)
  pub ticks : (c : Settings) (now : ℕ) (e : ServerEnd) (q : PeerKey) → IsDistinct same_key e.slots
      → value_at same_key q (responder_tick c now e).end.slots ≡ keep (is_live now) (server_ticked_at c now q (value_at same_key q e.slots))

-- the entry of each slot is live at that moment
abbrev pub AreLive : (now : ℕ) → List ServerSlot → Type 0
AreLive now slots = EachSlot (λ s. is_live now s.value ≡ true) slots

-- a tick leaves no entry that is not live
abbrev pub TicksLeaveLive : Type 0
TicksLeaveLive = (c : Settings) (now : ℕ) (e : ServerEnd) → AreLive now (responder_tick c now e).end.slots

-- an APDU that begins a request: one without SEG, or its segment 0
abbrev pub BeginsRequest : Apdu → Type 0
BeginsRequest (ConfirmedRequest limits invoke_id None choice octets) = Unit {0}
BeginsRequest (ConfirmedRequest limits invoke_id (Some segment) choice octets) = segment.number ≡ 0
BeginsRequest _ = ⊥

-- the Abort with reason 'other' is sent, nothing is performed, and the table is as it was
pub record IsTurnedAway (peer : PeerView) (a : Apdu) (e : ServerEnd) (turn : ServerTurn) : Type 0 where
  pub end : turn.end ≡ e
  pub sends : turn.sends ≡ to_peer peer (Abort true (invoke_id_of a) OTHER) ∷ []
  pub act : turn.act ≡ None

-- a server that can have so many more or fewer entries does the same
pub record IsWithoutCapacity (one other : ServerTurn) : Type 0 where
  pub slots : other.end.slots ≡ one.end.slots
  pub sends : other.sends ≡ one.sends
  pub act : other.act ≡ one.act

-- a request that finds no live entry of its key is turned away exactly where no slot is free or the end waits; one that finds a live entry never looks at that
pub record TurnsAway : Type 0 where
  pub full : (c : Settings) (now : ℕ) (service : Service) (peer : PeerView) (a : Apdu) (e : ServerEnd) → BeginsRequest a
      → is_none_live now (value_at same_key (key_of peer a) e.slots) ≡ true
      → (IsTurnedAway peer a e (responder_on_apdu c now service peer a e) ↔ (is_free now e ≡ false))
  pub live : (c : Settings) (now : ℕ) (service : Service) (peer : PeerView) (a : Apdu) (e : ServerEnd) (capacity : ℕ)
      → is_none_live now (value_at same_key (key_of peer a) e.slots) ≡ false
      → IsWithoutCapacity (responder_on_apdu c now service peer a e) (responder_on_apdu c now service peer a (record e { capacity = capacity }))
