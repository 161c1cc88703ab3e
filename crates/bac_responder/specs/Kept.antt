-- How many octets of service data the server's end keeps, and by how many an APDU can make it keep more.
use Rattle.std.specs.Prelude.{◌≡◌, ◌≤◌, ℕ, ◌+◌, ◌-◌, ◌*◌, ◌/◌, max, nat_le, Bool, true, false, not, is_some, if◌then◌else◌, List, [], ◌∷◌, length, Option, Some, None}
use Rattle.std.specs.Option.{option_map}
use Rattle.bac_apdu.specs.Apdu.{Apdu}
use Rattle.bac_apdu.specs.Apdu.Apdu.{ConfirmedRequest, ComplexAck}
use Rattle.bac_npdu.specs.Peers.{PeerView}
use Rattle.bac_segment.specs.Pieces.{join}
use Rattle.bac_slots.specs.declared.slot.Slot.{Slot}
use Rattle.bac_slots.specs.Slots.{value_at}
use Rattle.bac_service.specs.Values.{Request}
use Rattle.bac_store.specs.ReplyLengths.{DATA_LIMIT, reply_length}
use Rattle.bac_store.specs.Replies.{reply_to}
use Rattle.bac_store.specs.Stores.{Store}
use Rattle.bac_protocol.specs.Context.{Context, Settings}
use Rattle.bac_protocol.specs.Server.{ServerTransaction, Service, State, is_live, is_none_live}
use Rattle.bac_protocol.specs.Service.{Octets}
use Rattle.bac_protocol.specs.Serving.{ReadRule, ServerRules, entry_left, needs_no_slot}
use Rattle.bac_transaction.specs.Ends.{ServerEnd, ServerSlot, context_of, key_of}
use Rattle.bac_transaction.specs.Keys as keys
use Rattle.bac_transaction.specs.Keys.{same_key}
use Rattle.bac_transaction.specs.Services.{service_of}
use Rattle.bac_transaction.specs.Serving.{responder_by}
use Rattle.bac_transaction.specs.Sharing.{EndRules, address_of, held_at}
use Rattle.bac_transaction.specs.declared.peer_key.PeerKey.{PeerKey}

-- of segments that were received: those of each, and four for its place
abbrev pub parts_octets : List Octets → ℕ
parts_octets parts = length (join parts) + length parts * 4

-- of a kept reply of one APDU: its service data
abbrev pub reply_octets : Apdu → ℕ
reply_octets (ComplexAck invoke_id segment choice octets) = length octets
reply_octets _ = 0

abbrev pub state_octets : State → ℕ
state_octets (State.SegmentedRequest inc since) = parts_octets inc.parts
state_octets (State.Done kept) = reply_octets kept
state_octets (State.SegmentedResponse out transfer since) = length (join out.pieces)
state_octets State.Dropped = 0

-- of what may be kept
abbrev pub kept_length : Option Octets → ℕ
kept_length None = 0
kept_length (Some octets) = length octets

-- of a request: its service data where it came without SEG, or its first piece
abbrev pub request_octets : ServerTransaction → ℕ
request_octets e = kept_length e.request + kept_length e.first

-- of an entry: its request, and what its state keeps
abbrev pub entry_octets : ServerTransaction → ℕ
entry_octets e = request_octets e + state_octets e.state

-- of all slots, whether their entries are live or not
abbrev pub kept_octets : List ServerSlot → ℕ
kept_octets [] = 0
kept_octets (s ∷ slots) = entry_octets s.value + kept_octets slots

-- of an entry, if there is one
abbrev pub octets_of : Option ServerTransaction → ℕ
octets_of None = 0
octets_of (Some e) = entry_octets e

-- what is counted of a slot of the table: all that its entry keeps, or nothing where only live ones count and it is not
abbrev pub counted : (only_live : Bool) → (now : ℕ) → Slot PeerKey ServerTransaction → ℕ
counted true now s = if is_live now s.value then entry_octets s.value else 0
counted false now s = entry_octets s.value

-- what a tick gives back of it: all that its entry keeps, where that is not live
abbrev pub given_back : (now : ℕ) → Slot PeerKey ServerTransaction → ℕ
given_back now s = if is_live now s.value then 0 else entry_octets s.value

-- the sum of a number of each
abbrev pub sum_of : {A : Type 0} → (A → ℕ) → List A → ℕ
sum_of f [] = 0
sum_of f (x ∷ xs) = f x + sum_of f xs

-- by how many octets an APDU can make an end keep more: a request by its service data, the place of a segment, and the longest reply; no other by any
abbrev pub growth : Apdu → ℕ
growth (ConfirmedRequest limits invoke_id segment choice octets) = length octets + (DATA_LIMIT + 4)
growth _ = 0

-- each reply of the store can be sent
abbrev pub HasShortReplies : Store → Type 0
HasShortReplies s = (r : Request) → reply_length (reply_to s r) ≤ DATA_LIMIT

-- whatever that APDU makes of the end, by any rules, it then keeps no more octets than before, or no more than the bound, if there is one
abbrev pub StaysWithin : (memory : Option ℕ) → (now : ℕ) → PeerView → Apdu → ServerEnd → Type 0
StaysWithin None now peer a e = Unit {0}
StaysWithin (Some memory) now peer a e =
    (rules : EndRules) (c : Settings) (s : Store) → HasShortReplies s
    → kept_octets (responder_by rules c now (service_of s) peer a e).end.slots ≤ max (kept_octets e.slots) memory

-- an end keeps no more octets than before, or no more than the bound, if there is one
abbrev pub IsWithin : (memory : Option ℕ) → Store → (old new : ServerEnd) → Type 0
IsWithin None s old new = Unit {0}
IsWithin (Some memory) s old new = HasShortReplies s → kept_octets new.slots ≤ max (kept_octets old.slots) memory

-- Where slots are shared, memory is too: its last sixteenth is left to the first live entry of each IP address.

-- how much of it one address gets
abbrev pub most_of_one : (memory : ℕ) → ℕ
most_of_one memory = memory - memory / 16

-- the address of that key holds a live entry, and not for that key
abbrev pub holds_another : (now : ℕ) → keys.PeerKey → ServerEnd → Bool
holds_another now key e =
    not (nat_le (held_at now (address_of key.peer.link) e) (if is_none_live now (value_at same_key key e.slots) then 0 else 1))

-- such an address gets only that much; each other one gets all
abbrev pub IsSharedBy : EndRules → (memory : Option ℕ) → Store → (now : ℕ) → keys.PeerKey → (old new : ServerEnd) → Type 0
IsSharedBy rules memory s now key old new =
    rules.share ≡ true → holds_another now key old ≡ true → IsWithin (option_map most_of_one memory) s old new

-- What makes no end keep more, however little room there is.

-- a request without SEG
abbrev pub is_whole : Apdu → Bool
is_whole (ConfirmedRequest limits invoke_id None choice octets) = true
is_whole (ConfirmedRequest limits invoke_id (Some segment) choice octets) = false
is_whole _ = false

-- a request, without SEG or a segment of one
abbrev pub is_request : Apdu → Bool
is_request (ConfirmedRequest limits invoke_id segment choice octets) = true
is_request _ = false

-- a request that makes an entry in that state keep no more: each one, but a segment where segments are received
abbrev pub grows_none : State → Apdu → Bool
grows_none (State.SegmentedRequest inc since) a = is_whole a
grows_none (State.Done kept) a = is_request a
grows_none (State.SegmentedResponse out transfer since) a = is_request a
grows_none State.Dropped a = is_request a

-- there is an entry, and it makes that keep no more
abbrev pub grows_none_at : Option ServerTransaction → Apdu → Bool
grows_none_at None a = false
grows_none_at (Some e) a = grows_none e.state a

-- the entry that is left goes on and keeps no more; where none is live, an APDU that needs no slot begins none: a read whose reply is one APDU
abbrev pub adds_nothing : Context → Service → ReadRule → (left : Option ServerTransaction) → Apdu → Bool
adds_nothing c service reads left a = if is_none_live c.now left then needs_no_slot c service reads a else grows_none_at left a

-- an APDU comes for that key
abbrev pub adds_nothing_at : ServerRules → Settings → (now : ℕ) → Service → keys.PeerKey → Apdu → ServerEnd → Bool
adds_nothing_at rules c now service key a e =
    adds_nothing (context_of c now key) service rules.reads (entry_left rules now (value_at same_key key e.slots) a) a

-- an APDU comes from a peer
abbrev pub keeps_no_more : EndRules → Settings → (now : ℕ) → Service → PeerView → Apdu → ServerEnd → Bool
keeps_no_more rules c now service peer a e = adds_nothing_at rules.machine c now service (key_of peer a) a e

-- only such an APDU finds no room: it is a request, it can make the end keep more, and there is a bound
pub record NeedsRoom (rules : EndRules) (memory : Option ℕ) (c : Settings) (now : ℕ) (service : Service) (peer : PeerView) (a : Apdu) (e : ServerEnd) : Type 0 where
  pub request : is_request a ≡ true
  pub more : keeps_no_more rules c now service peer a e ≡ false
  pub bound : is_some memory ≡ true
