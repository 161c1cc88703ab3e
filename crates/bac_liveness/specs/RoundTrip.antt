-- One round trip suffices, where the reply goes in one APDU: one copy of the request, or of a segment of it, that is delivered to a server that performs
-- the request then or has performed it, and one copy of the answer that this delivery sent.
use Rattle.std.specs.Prelude.{◌≡◌, ℕ, ◌-◌, ◌≤◌, ◌⊎◌, Bool, true, false, List, [], ◌∷◌, ◌++◌, Option, Some, None}
use Rattle.bac_apdu.specs.Apdu.{Apdu}
use Rattle.bac_segment.specs.Pieces.{join}
use Rattle.bac_protocol.specs.declared.times.TheConstants.{DEADLINE}
use Rattle.bac_protocol.specs.Service.{Octets, Reply}
use Rattle.bac_protocol.specs.Service.Outcome.{Replies}
use Rattle.bac_protocol.specs.Service.Ending.{Answered}
use Rattle.bac_protocol.specs.Sizes.Way.{InOne}
use Rattle.bac_protocol.specs.Client.{Ask, ClientTransaction, is_idle, request_of, request_apdu, request_piece}
use Rattle.bac_protocol.specs.Server.{ServerTransaction, is_live, is_none_live, reply_apdu}
use Rattle.bac_protocol.specs.Server.State.{Done}
use Rattle.bac_protocol.specs.Log.{Has, StoreModel}
use Rattle.bac_protocol.specs.Log.Fact.{Performed, Ended}
use Rattle.bac_protocol.specs.Transaction.{Key, Rules, client_context, server_context}
use Rattle.bac_protocol.specs.World.{Net, World, Event, client_now, server_now, happens, run, post_of}
use Rattle.bac_protocol.specs.World.Event.{Deliver}
use Rattle.bac_protocol.specs.Straight.{KindFits, way_to, is_ended}
use Rattle.bac_liveness.specs.Runs.{IsOnItsWay, HasWindows, StaysSince}

-- the request of an ask in one APDU, piece n of it as a segment, and a reply to it in one APDU
abbrev pub request_to : Rules → Key → Ask → Apdu
request_to x key ask = request_apdu (client_context x key ask.first) ask

abbrev pub segment_to : Rules → Key → Ask → ℕ → Apdu
segment_to x key ask n = request_piece (client_context x key ask.first) ask.choice ask.pieces n

abbrev pub answer_to : Rules → Key → Ask → Reply → Apdu
answer_to x key ask p = reply_apdu (server_context x key ask.first) ask.choice p

-- a reply goes in one APDU, is of the kind of the service choice that was asked, and its client can read it
pub record FitsInOne (x : Rules) (key : Key) (ask : Ask) (p : Reply) : Type 0 where
  pub way : way_to x key p ≡ InOne
  pub kind : KindFits x.readable ask.choice p

-- the server performs the request when it comes: no entry is live, a slot is free, it does not wait after a restart, and its store gives that reply
pub record CanPerform (S : Type 0) (model : StoreModel S) (w : World S) (key : Key) (ask : Ask) (free : Bool) (p : Reply) : Type 0 where
  pub none : is_none_live (server_now w.net key) (w.net.entries key) ≡ true
  pub slot : free ≡ true
  pub serving : w.net.serves_from key.server ≤ server_now w.net key
  pub outcome : model.outcome (w.stores key.server) ask.choice (join ask.pieces) ≡ Replies p

-- or it has performed it: its entry is done and keeps that reply, and beside it the service data of a request that came without SEG
pub record HasPerformed (x : Rules) (n : Net) (key : Key) (ask : Ask) (request : Option Octets) (p : Reply) : Type 0 where
  pub entry : ServerTransaction
  pub at : n.entries key ≡ Some entry
  pub live : is_live (server_now n key) entry ≡ true
  pub request_is : entry.request ≡ request
  pub state : entry.state ≡ Done (answer_to x key ask p)

-- the ticket of that transaction is open, and the ask is in time
pub record IsOpenInTime (n : Net) (key : Key) (ask : Ask) : Type 0 where
  pub ticket : ClientTransaction
  pub at : n.tickets key ≡ Some ticket
  pub going : is_idle ticket.phase ≡ false
  pub in_time : client_now n key - ask.first ≤ DEADLINE

-- the ticket ends now, and the log says with which reply
pub record IsAnsweredNow (S : Type 0) (key : Key) (number : ℕ) (p : Reply) (old new : World S) : Type 0 where
  pub log : new.net.log ≡ Ended number (Answered p) ∷ old.net.log
  pub over : is_ended (new.net.tickets key) ≡ true

-- a delivery leads from world w to world u: the request was performed with that reply, and the answer was sent; and whatever happens then, as long
-- as the ticket is open and in time, each copy of the answer that is delivered ends it with that reply, also where its server restarts
pub record IsServed (S : Type 0) (model : StoreModel S) (x : Rules) (key : Key) (ask : Ask) (p : Reply) (w u : World S) : Type 0 where
  pub performed : Has (Performed (w.net.numbers key) (request_of ask) p) u.net.log
  pub sent : u.net.posts ≡ w.net.posts ++ post_of key w.net.now (answer_to x key ask p) ∷ []
  pub answered : (events : List Event)
      → (let v = run S model x events u in StaysSince v.net key (w.net.made key) → IsOpenInTime v.net key ask
      → (number : ℕ) → IsOnItsWay x v.net key (answer_to x key ask p) number → (free : Bool)
      → IsAnsweredNow S key (w.net.numbers key) p v (happens S model x v (Deliver number free)))

-- a request of one APDU is served where a copy of it is delivered
abbrev pub RoundTripSuffices : (S : Type 0) → StoreModel S → Rules → World S → Type 0
RoundTripSuffices S model x w =
    (key : Key) (t : ClientTransaction) → w.net.tickets key ≡ Some t → t.ask.whole ≡ true → (p : Reply) → FitsInOne x key t.ask p
    → (free : Bool) → CanPerform S model w key t.ask free p ⊎ HasPerformed x w.net key t.ask (Some (join t.ask.pieces)) p
    → (number : ℕ) → IsOnItsWay x w.net key (request_to x key t.ask) number
    → IsServed S model x key t.ask p w (happens S model x w (Deliver number free))

-- a request in segments that was performed is served where a copy of any of its segments is delivered
abbrev pub RoundTripSufficesInSegments : (S : Type 0) → StoreModel S → Rules → World S → Type 0
RoundTripSufficesInSegments S model x w =
    (key : Key) → HasWindows x key → (t : ClientTransaction) → w.net.tickets key ≡ Some t → (p : Reply) → FitsInOne x key t.ask p
    → HasPerformed x w.net key t.ask None p
    → (number piece : ℕ) (free : Bool) → IsOnItsWay x w.net key (segment_to x key t.ask piece) number
    → IsServed S model x key t.ask p w (happens S model x w (Deliver number free))
