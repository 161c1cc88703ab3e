-- Both ends of a node as plain lists of slots, and what each call makes of them, by the machines on the one slot.
use Rattle.std.specs.Prelude.{ℕ, zero, suc, ◌+◌, ◌-◌, Bool, true, false, ◌||◌, ◌&&◌, not, List, [], ◌∷◌, ◌++◌, map, filter, count_by, Option, Some, None}
use Rattle.std.specs.Prelude.{if◌then◌else◌, nat_lt, nat_le}
use Rattle.std.specs.Option.{option_or}
use Rattle.bac_apdu.specs.Apdu.{Apdu, Limits}
use Rattle.bac_npdu.specs.Peers.{PeerView}
use Rattle.bac_slots.specs.declared.slot.Slot.{Slot}
use Rattle.bac_slots.specs.Slots.{value_at, with_value, in_order}
use Rattle.bac_protocol.specs.declared.times.TheConstants.{HOLD, KEEP, REST}
use Rattle.bac_protocol.specs.Context.{Settings, Context}
use Rattle.bac_protocol.specs.Sizes.{Way, RequestFault, request_way_of}
use Rattle.bac_protocol.specs.Service.{Octets, Ending, Readable}
use Rattle.bac_protocol.specs.Own.{invoke_id_of}
use Rattle.bac_protocol.specs.Client as client
use Rattle.bac_protocol.specs.Client.{Ask, ClientTransaction, is_idle, client_on_apdu, client_ticks, asked_ticket, asks}
use Rattle.bac_protocol.specs.Server as server
use Rattle.bac_protocol.specs.Server.{ServerTransaction, Effect, Service, is_live, is_none_live, server_on_apdu, server_ticks}
use Rattle.bac_transaction.specs.Keys.{PeerKey, peer_key_cmp, same_key}
use Rattle.bac_transaction.specs.Sends.{Send, to_all}

-- what a list of lists has, from the first on
abbrev pub from_each : {A B : Type 0} → (A → List B) → List A → List B
from_each f [] = []
from_each f (x ∷ xs) = f x ++ from_each f xs

-- what a machine is told of its transaction
abbrev pub context_of : Settings → (now : ℕ) → PeerKey → Context
context_of c now key = record { settings = c; invoke_id = key.invoke_id; now = now }

-- The client's end.

-- what a slot keeps of a ticket: all of an open one, and of one that has ended the moment of its first sending
pub data TransactionSlot : Type 0 where
  Open : (ticket : ClientTransaction) → TransactionSlot
  Closed : (first : ℕ) → TransactionSlot

-- closed, where the ticket is over
abbrev pub open_unless : Bool → ClientTransaction → TransactionSlot
open_unless true t = Closed t.ask.first
open_unless false t = Open t

-- closed exactly where its machine is idle (IDLE of clause 5.4.4.1)
abbrev pub kept : ClientTransaction → TransactionSlot
kept t = open_unless (is_idle t.phase) t

-- tickets are numbered
pub record Client : Type 0 where
  pub number : ℕ
  pub held : TransactionSlot

-- a slot's life begins with the first sending
abbrev pub ClientSlot : Type 0
ClientSlot = Slot PeerKey Client

-- asked is how many asks were accepted
pub record ClientEnd : Type 0 where
  pub slots : List ClientSlot
  pub capacity : ℕ
  pub asked : ℕ
  pub asks_from : ℕ  -- the first moment at which it asks; 0 where it never restarted
  pub first_id : ℕ  -- where its invoke IDs begin: 0, or what it was told

-- a slot is held, and with it its invoke ID, while its ticket is open or no more than HOLD has passed (own rule of this profile)
abbrev pub is_held : ℕ → TransactionSlot → Bool
is_held now (Open t) = true
is_held now (Closed first) = nat_le (now - first) HOLD

-- a slot is held while what it keeps is
abbrev pub is_slot_held : ℕ → ClientSlot → Bool
is_slot_held now s = is_held now s.value.held

-- a ticket has ended: its number, and the service choice of its request
pub record Ended : Type 0 where
  pub number : ℕ
  pub choice : ℕ
  pub how : Ending

-- what one event makes of the client's end, what is sent, in order of sending, and what has ended
pub record ClientTurn : Type 0 where
  pub end : ClientEnd
  pub sends : List Send
  pub ended : List Ended

-- nothing comes of it
abbrev pub stays : ClientEnd → ClientTurn
stays e = record { end = e; sends = []; ended = [] }

-- that ticket has ended, if it has
abbrev pub ended_with : (number choice : ℕ) → Option Ending → List Ended
ended_with number choice None = []
ended_with number choice (Some how) = record { number = number; choice = choice; how = how } ∷ []

-- a slot after a step of its machine
abbrev pub client_after : (now number : ℕ) → ClientTransaction → client.Reaction → Client
client_after now number t r = record { number = number; held = kept (client.after now t r) }

-- one open ticket goes on by its machine
abbrev pub client_goes : (now : ℕ) → ClientEnd → PeerKey → (number : ℕ) → ClientTransaction → client.Reaction → ClientTurn
client_goes now e key number t r =
    record {
      end = record e { slots = with_value same_key key (client_after now number t r) e.slots };
      sends = to_all key.peer (client.sends_of r);
      ended = ended_with number t.ask.choice (client.ending_of r);
    }

-- an APDU for that slot: one that was closed drops it, an open ticket's machine gets it (clause 5.4.4)
abbrev pub requester_on_apdu_in_slot : Settings → Readable → (now : ℕ) → Apdu → ClientEnd → PeerKey → (number : ℕ) → TransactionSlot → ClientTurn
requester_on_apdu_in_slot c readable now a e key number (Closed first) = stays e
requester_on_apdu_in_slot c readable now a e key number (Open t) = client_goes now e key number t (client_on_apdu (context_of c now key) readable t a)

-- an APDU for the slot of its key, if any; without one it is dropped
abbrev pub requester_on_apdu_at : Settings → Readable → (now : ℕ) → Apdu → ClientEnd → PeerKey → Option Client → ClientTurn
requester_on_apdu_at c readable now a e key None = stays e
requester_on_apdu_at c readable now a e key (Some s) = requester_on_apdu_in_slot c readable now a e key s.number s.held

-- the key of an APDU from that peer: its invoke ID is the transaction's (clause 20.1.2.6)
abbrev pub key_of : PeerView → Apdu → PeerKey
key_of peer a = record { peer = peer; invoke_id = invoke_id_of a }

-- an APDU comes from a peer
abbrev pub requester_on_apdu : Settings → Readable → (now : ℕ) → PeerView → Apdu → ClientEnd → ClientTurn
requester_on_apdu c readable now peer a e = requester_on_apdu_at c readable now a e (key_of peer a) (value_at same_key (key_of peer a) e.slots)

-- A tick of the client's end.

-- a slot after a tick; a closed one stays
abbrev pub held_ticked : Context → (number : ℕ) → TransactionSlot → Client
held_ticked c number (Closed first) = record { number = number; held = Closed first }
held_ticked c number (Open t) = client_after c.now number t (client_ticks c t)

-- a slot in its place after a tick
abbrev pub client_ticked : Settings → (now : ℕ) → ClientSlot → ClientSlot
client_ticked c now s = record s { value = held_ticked (context_of c now s.key) s.value.number s.value.held }

-- what a slot sends on a tick (clause 5.4.4); a closed one nothing
abbrev pub held_tick_sends : Context → PeerView → TransactionSlot → List Send
held_tick_sends c peer (Closed first) = []
held_tick_sends c peer (Open t) = to_all peer (client.sends_of (client_ticks c t))

-- the same in its place
abbrev pub client_tick_sends : Settings → (now : ℕ) → ClientSlot → List Send
client_tick_sends c now s = held_tick_sends (context_of c now s.key) s.key.peer s.value.held

-- how a slot ends on a tick, if it does
abbrev pub held_tick_ends : Context → (number : ℕ) → TransactionSlot → List Ended
held_tick_ends c number (Closed first) = []
held_tick_ends c number (Open t) = ended_with number t.ask.choice (client.ending_of (client_ticks c t))

-- the same in its place
abbrev pub client_tick_ends : Settings → (now : ℕ) → ClientSlot → List Ended
client_tick_ends c now s = held_tick_ends (context_of c now s.key) s.value.number s.value.held

-- all slots go on; what they send and end stands in ascending order of keys
abbrev pub requester_tick : Settings → (now : ℕ) → ClientEnd → ClientTurn
requester_tick c now e =
    record {
      end = record e { slots = map (client_ticked c now) e.slots };
      sends = from_each (client_tick_sends c now) (in_order peer_key_cmp e.slots);
      ended = from_each (client_tick_ends c now) (in_order peer_key_cmp e.slots);
    }

-- An ask.

-- why an ask is refused: all slots are held, or no further ticket has a number; all invoke IDs of the peer are held; or the request can't go
pub data AskRefusal : Type 0 where
  NoSlot : AskRefusal
  NoInvokeId : AskRefusal
  CannotGo : (why : RequestFault) → AskRefusal

-- a slot that is there is held
abbrev pub is_held_there : ℕ → Option Client → Bool
is_held_there now None = false
is_held_there now (Some s) = is_held now s.held

-- a held slot has that invoke ID for the peer
abbrev pub is_id_held : ℕ → List ClientSlot → PeerView → ℕ → Bool
is_id_held now slots peer invoke_id = is_held_there now (value_at same_key (record { peer = peer; invoke_id = invoke_id }) slots)

-- a restarted end asks nothing before that moment (own rule of this profile)
abbrev pub waits_to_ask : ℕ → ClientEnd → Bool
waits_to_ask now e = nat_lt now e.asks_from

-- an invoke ID can't be taken for the peer: the end waits, as if all were held, or a held slot has it
abbrev pub is_id_taken : ℕ → ClientEnd → PeerView → ℕ → Bool
is_id_taken now e peer invoke_id = waits_to_ask now e || is_id_held now e.slots peer invoke_id

-- the least of so many numbers from one on that a test refuses
abbrev pub least_not : (ℕ → Bool) → (count from : ℕ) → Option ℕ
least_not test zero from = None
least_not test (suc count) from = if test from then least_not test count (from + 1) else Some from

-- the same of all octets, from the first one on and around: up to 255, and where none is refused there, from 0 on
abbrev pub least_around : (ℕ → Bool) → (first : ℕ) → Option ℕ
least_around test first = option_or (least_not test (256 - first) first) (least_not test 256 0)

-- the invoke ID that an ask takes for the peer: from the end's first one on and around, the least that is not taken
abbrev pub free_id : (now : ℕ) → ClientEnd → PeerView → Option ℕ
free_id now e peer = least_around (is_id_taken now e peer) e.first_id

-- the most asks that an end accepts: so many have a number of 64 bits each
abbrev pub MOST_ASKS : ℕ
MOST_ASKS = 18446744073709551615

-- all slots are held, or no number is left for a further ticket
abbrev pub has_no_slot : ℕ → ClientEnd → Bool
has_no_slot now e = nat_le e.capacity (count_by (is_slot_held now) e.slots) || nat_le MOST_ASKS e.asked

-- an accepted ask
pub record Accepted : Type 0 where
  pub end : ClientEnd
  pub ticket : ℕ
  pub invoke_id : ℕ
  pub ask : Ask
  pub sends : List Send

-- an ask is refused and changes nothing, or accepted
pub data AskOutcome : Type 0 where
  Refused : (why : AskRefusal) → AskOutcome
  Asked : (accepted : Accepted) → AskOutcome

-- a slot of a ticket that was just asked
abbrev pub new_client : Context → (number : ℕ) → Ask → Client
new_client c number ask = record { number = number; held = kept (asked_ticket c ask) }

-- the slots that are not held go, and a new one comes
abbrev pub accepts : Settings → (now : ℕ) → PeerKey → Ask → ClientEnd → Accepted
accepts c now key ask e =
    record {
      end = record e {
        slots = filter (is_slot_held now) e.slots ++ record { key = key; begin = now; value = new_client (context_of c now key) e.asked ask } ∷ [];
        asked = e.asked + 1;
      };
      ticket = e.asked;
      invoke_id = key.invoke_id;
      ask = ask;
      sends = to_all key.peer (client.sends_of (asks (context_of c now key) ask));
    }

-- an ask with that invoke ID, if one is free
abbrev pub asks_with_id : Settings → (now : ℕ) → PeerView → Ask → ClientEnd → Option ℕ → AskOutcome
asks_with_id c now peer ask e None = AskOutcome.Refused NoInvokeId
asks_with_id c now peer ask e (Some invoke_id) =
    if has_no_slot now e then AskOutcome.Refused NoSlot else Asked (accepts c now (record { peer = peer; invoke_id = invoke_id }) ask e)

-- it takes an invoke ID that is free for the peer
abbrev pub asks_for : Settings → (now : ℕ) → PeerView → Ask → ClientEnd → AskOutcome
asks_for c now peer ask e = asks_with_id c now peer ask e (free_id now e peer)

-- an ask goes the way of its request: in one APDU, in segments, or not at all (clause 5.2)
abbrev pub asks_by_way : Settings → (now : ℕ) → PeerView → (choice : ℕ) → Octets → ClientEnd → Way RequestFault → AskOutcome
asks_by_way c now peer choice octets e Way.InOne =
    asks_for c now peer (record { first = now; choice = choice; whole = true; pieces = octets ∷ [] }) e
asks_by_way c now peer choice octets e (Way.InSegments pieces) =
    asks_for c now peer (record { first = now; choice = choice; whole = false; pieces = pieces }) e
asks_by_way c now peer choice octets e (Way.Refused why) = AskOutcome.Refused (CannotGo why)

-- a request with these service data, to a peer that takes so much
abbrev pub requester_ask : Settings → (now : ℕ) → PeerView → Limits → (choice : ℕ) → Octets → ClientEnd → AskOutcome
requester_ask c now peer limits choice octets e = asks_by_way c now peer choice octets e (request_way_of c limits octets)

-- The server's end.

-- an entry in its place
abbrev pub ServerSlot : Type 0
ServerSlot = Slot PeerKey ServerTransaction

-- the reply table (own rule of this profile); a slot's life begins with that of its entry
pub record ServerEnd : Type 0 where
  pub slots : List ServerSlot
  pub capacity : ℕ
  pub serves_from : ℕ  -- the first moment at which it begins entries; 0 where it never restarted

-- an effect, and for which transaction
pub record Act : Type 0 where
  pub key : PeerKey
  pub effect : Effect

-- what one event makes of the server's end, what is sent, in order of sending, and what was performed
pub record ServerTurn : Type 0 where
  pub end : ServerEnd
  pub sends : List Send
  pub act : Option Act

-- a slot is live while its entry is
abbrev pub is_slot_live : ℕ → ServerSlot → Bool
is_slot_live now s = is_live now s.value

-- a restarted end begins no entry before that moment (own rule of this profile)
abbrev pub waits_to_serve : ℕ → ServerEnd → Bool
waits_to_serve now e = nat_lt now e.serves_from

-- an entry may begin: a slot has no live one, and the end does not wait
abbrev pub is_free : ℕ → ServerEnd → Bool
is_free now e = nat_lt (count_by (is_slot_live now) e.slots) e.capacity && not (waits_to_serve now e)

-- an entry that is live is set in its place; where none was, those that are not live go, and the new one comes
abbrev pub set_or_put : ℕ → PeerKey → ServerTransaction → List ServerSlot → (dead : Bool) → List ServerSlot
set_or_put now key d slots false = with_value same_key key d slots
set_or_put now key d slots true = filter (is_slot_live now) slots ++ record { key = key; begin = d.begin; value = d } ∷ []

-- one that is not live stays where it is
abbrev pub put_entry : ℕ → PeerKey → Option ServerTransaction → List ServerSlot → List ServerSlot
put_entry now key None slots = slots
put_entry now key (Some d) slots = if is_live now d then set_or_put now key d slots (is_none_live now (value_at same_key key slots)) else slots

-- the effect, if any, of that transaction
abbrev pub act_at : PeerKey → Option Effect → Option Act
act_at key None = None
act_at key (Some x) = Some (record { key = key; effect = x })

-- the server's end after a reaction of one machine
abbrev pub server_goes : (now : ℕ) → ServerEnd → PeerKey → server.Reaction → ServerTurn
server_goes now e key v =
    record { end = record e { slots = put_entry now key v.entry e.slots }; sends = to_all key.peer v.sends; act = act_at key v.effect }

-- an APDU comes from a peer
abbrev pub responder_on_apdu : Settings → (now : ℕ) → Service → PeerView → Apdu → ServerEnd → ServerTurn
responder_on_apdu c now service peer a e =
    server_goes now e (key_of peer a) (server_on_apdu (context_of c now (key_of peer a)) service (value_at same_key (key_of peer a) e.slots) (is_free now e) a)

-- A tick of the server's end.

-- the entry after a reaction to it
abbrev pub entry_or : ServerTransaction → Option ServerTransaction → ServerTransaction
entry_or old None = old
entry_or old (Some d) = d

-- a slot in its place after a tick
abbrev pub server_ticked : Settings → (now : ℕ) → ServerSlot → ServerSlot
server_ticked c now s = record s { value = entry_or s.value (server_ticks (context_of c now s.key) (Some s.value)).entry }

-- what a slot sends on a tick (clause 5.4.5)
abbrev pub server_tick_sends : Settings → (now : ℕ) → ServerSlot → List Send
server_tick_sends c now s = to_all s.key.peer (server_ticks (context_of c now s.key) (Some s.value)).sends

-- all slots go on, and those that are not live go; what they send stands in ascending order of keys
abbrev pub responder_tick : Settings → (now : ℕ) → ServerEnd → ServerTurn
responder_tick c now e =
    record {
      end = record e { slots = filter (is_slot_live now) (map (server_ticked c now) e.slots) };
      sends = from_each (server_tick_sends c now) (in_order peer_key_cmp e.slots);
      act = None;
    }

-- Restarts (own rule of this profile): the table is lost, and tickets are numbered anew.

-- the first moment after a wait from a restart on; 0 where there was none
abbrev pub first_after : (wait : ℕ) → (restart : Option ℕ) → ℕ
first_after wait None = 0
first_after wait (Some restart) = restart + wait + 1

-- while a copy of its old life, or an answer to one, may come, a client asks nothing; its invoke IDs begin where they did
abbrev pub client_restarted : (now : ℕ) → ClientEnd → ClientEnd
client_restarted now e = record { slots = []; capacity = e.capacity; asked = 0; asks_from = now + REST + 1; first_id = e.first_id }

-- while a request may come again that was performed before, a server begins no entry
abbrev pub server_restarted : (now : ℕ) → ServerEnd → ServerEnd
server_restarted now e = record { slots = []; capacity = e.capacity; serves_from = now + KEEP + 1 }
