-- What an APDU makes of the server's end by its rules, in code.
use Rattle.std.specs.Prelude.{◌≡◌, ℕ, Bool, true, false, Option, Some, None, Result, Ok, Err, List, is_some, if◌then◌else◌}
use Rattle.bac_apdu.specs.Apdu.{Apdu, Limits}
use Rattle.bac_apdu.specs.Apdu.Apdu.{ConfirmedRequest}
use Rattle.bac_npdu.specs.Peers.{PeerView}
use Rattle.bac_value.specs.declared.memory.NoMemory.{NoMemory}
use Rattle.bac_slots.specs.declared.slot.Slot.{Slot}
use Rattle.bac_slots.specs.Slots.{without}
use Rattle.bac_store.specs.Stores.{Store}
use Rattle.bac_protocol.specs.Context.{Settings}
use Rattle.bac_protocol.specs.Server as server
use Rattle.bac_protocol.specs.Server.{ServerTransaction}
use Rattle.bac_protocol.specs.Service.{Octets}
use Rattle.bac_protocol.specs.Serving.{ReadRule}
use Rattle.bac_transaction.specs.Ends.{ServerEnd}
use Rattle.bac_transaction.specs.Keys as keys
use Rattle.bac_transaction.specs.Sends.{Datagram, IsSent, Pairwise, to_all}
use Rattle.bac_transaction.specs.Services as services
use Rattle.bac_transaction.specs.Services.{ArePerformed, service_of, store_after}
use Rattle.bac_transaction.specs.Serving.{is_turned_away_at, turn_at}
use Rattle.bac_transaction.specs.Sharing.{EndRules}
use Rattle.bac_transaction.specs.Views.{code_same_key}
use Rattle.bac_transaction.specs.declared.peer_key.PeerKey.{PeerKey}
use Rattle.bac_responder.specs.Kept.{adds_nothing_at}
use Rattle.bac_responder.specs.Reactions.{IsBegunAt, IsReaction}
use Rattle.bac_responder.specs.TransactionViews.{performed_view}
use Rattle.bac_responder.specs.Turns.{Acted, IsServed}
use Rattle.bac_responder.specs.Views.{acted_view}
use Rattle.bac_responder.specs.declared.beginning.Begun.{Begun}
use Rattle.bac_responder.specs.declared.performed.Performed.{Performed}
use Rattle.bac_responder.specs.declared.served.Served.{Served}

-- Where no entry is live. None is returned where memory has no room.

-- nothing is remembered: a dead entry, if any, stays where it is; a read may be performed
pub record IsPassed (r : server.Reaction) (dead : Option ServerTransaction) (peer : PeerView) (s : Store) (sent : List Datagram) (p : Option services.Performed)
    (t : Store) : Type 0 where
  pub entry : r.entry ≡ dead
  pub sends : Pairwise IsSent (to_all peer r.sends) sent
  pub effect : ArePerformed s r.effect p
  pub store : t ≡ store_after s p

-- an entry begins, or none does; neither rests on the dead entry, if any
abbrev pub PassesOrBegins : (Option ServerTransaction → server.Reaction) → PeerView → Store → Performed → Option ServerTransaction → Store → Type 0
PassesOrBegins r peer s x None t = (dead : Option ServerTransaction) → IsPassed (r dead) dead peer s x.sends.items (performed_view x.effect) t
PassesOrBegins r peer s x (Some e) t = (dead : Option ServerTransaction) → IsReaction (r dead) peer s e x.sends.items (performed_view x.effect) t

abbrev pub BeginsSo : (Option ServerTransaction → server.Reaction) → PeerView → Store → Result (Option Begun) NoMemory → Store → Type 0
BeginsSo r peer s (Ok (Some x)) t = PassesOrBegins r peer s x.performed x.entry t
BeginsSo r peer s (Ok None) t = t ≡ s
BeginsSo r peer s (Err e) t = t ≡ s

-- it says whether a request was turned away
abbrev pub TellsAway : (away : Bool) → Result (Option Begun) NoMemory → Type 0
TellsAway away (Ok (Some x)) = x.turned_away ≡ away
TellsAway away (Ok None) = Unit {0}
TellsAway away (Err e) = Unit {0}

-- where memory has no room, only what adds nothing is heard, and always
abbrev pub HeedsRoom : {T : Type 0} → (room nothing : Bool) → Result (Option T) NoMemory → Type 0
HeedsRoom room nothing (Ok (Some x)) = room ≡ false → nothing ≡ true
HeedsRoom room nothing (Ok None) = (room ≡ false) × (nothing ≡ false)
HeedsRoom room nothing (Err e) = Unit {0}

-- an entry begins only where a slot is free
abbrev pub EntersWhereFree : (free : Bool) → Result (Option Begun) NoMemory → Type 0
EntersWhereFree free (Ok (Some x)) = is_some x.entry ≡ true → free ≡ true
EntersWhereFree free (Ok None) = Unit {0}
EntersWhereFree free (Err e) = Unit {0}

-- an entry that begins, begins at that moment
abbrev pub HasBegunAt : (moment : ℕ) → Result (Option Begun) NoMemory → Type 0
HasBegunAt moment (Ok (Some x)) = IsBegunAt moment x.entry
HasBegunAt moment (Ok None) = Unit {0}
HasBegunAt moment (Err e) = Unit {0}

-- what a read says
pub record Read : Type 0 where
  pub choice : ℕ
  pub limits : Limits
  pub octets : Octets

-- a read without SEG, where reads are performed anew
abbrev pub whole_read : ReadRule → Apdu → Option Read
whole_read ReadRule.Kept a = None
whole_read (ReadRule.Fresh reads) (ConfirmedRequest limits invoke_id None choice octets) =
    if reads choice then Some (record { choice = choice; limits = limits; octets = octets }) else None
whole_read (ReadRule.Fresh reads) (ConfirmedRequest limits invoke_id (Some segment) choice octets) = None
whole_read (ReadRule.Fresh reads) _ = None

-- Where an entry is live.

-- what a call on an entry hands out; where memory has no room, or an allocation fails, it and the store are as they were
abbrev pub GoesOn : server.Reaction → PeerView → (old new : ServerTransaction) → Store → Result (Option Performed) NoMemory → Store → Type 0
GoesOn r peer old new s (Ok (Some x)) t = IsReaction r peer s new x.sends.items (performed_view x.effect) t
GoesOn r peer old new s (Ok None) t = (new ≡ old) × (t ≡ s)
GoesOn r peer old new s (Err e) t = (new ≡ old) × (t ≡ s)

-- The turn.

-- the slots of a table without that of a key, if it ends
abbrev pub code_slots_left : (ends : Bool) → PeerKey → List (Slot PeerKey ServerTransaction) → List (Slot PeerKey ServerTransaction)
code_slots_left ends key slots = if ends then without code_same_key key slots else slots

-- the turn is done, and it says whether a request was turned away
pub record IsHeard (rules : EndRules) (c : Settings) (now : ℕ) (key : keys.PeerKey) (a : Apdu) (old : ServerEnd) (s : Store) (sent : List Datagram)
    (x : Option Acted) (away : Bool) (new : ServerEnd) (t : Store) : Type 0 where
  pub turn : IsServed (turn_at rules c now (service_of s) key a old) s sent x new t
  pub told : away ≡ is_turned_away_at rules c now (service_of s) key a old

-- or memory has no room, or ran out, and the end and the store are as they were
abbrev pub Hears : EndRules → Settings → (now : ℕ) → keys.PeerKey → Apdu → (old : ServerEnd) → Store → Result (Option Served) NoMemory → (new : ServerEnd)
    → Store → Type 0
Hears rules c now key a old s (Ok (Some x)) new t = IsHeard rules c now key a old s x.sends.items (acted_view x.act) x.turned_away new t
Hears rules c now key a old s (Ok None) new t = (new ≡ old) × (t ≡ s)
Hears rules c now key a old s (Err e) new t = (new ≡ old) × (t ≡ s)

-- where memory has no room, only an APDU that makes the end keep no more is heard, and always
abbrev pub HeedsRoomAt : (room : Bool) → EndRules → Settings → (now : ℕ) → keys.PeerKey → Apdu → (old : ServerEnd) → Store → Result (Option Served) NoMemory
    → Type 0
HeedsRoomAt room rules c now key a old s x = HeedsRoom room (adds_nothing_at rules.machine c now (service_of s) key a old) x
