-- Runs that are computed, in which node 1 lets invoke IDs be used again. A store counts its writes, a reply tells how many there were, and choice 12 is a read.
use Rattle.std.specs.Prelude.{◌≡◌, ℕ, suc, Bool, true, false, List, [], ◌∷◌, ◌++◌, Option, Some, None, is_some, nat_eq, if◌then◌else◌}
use Rattle.bac_apdu.specs.Apdu.{Apdu}
use Rattle.bac_apdu.specs.Apdu.Apdu.{Abort, ConfirmedRequest, ComplexAck, SegmentAck}
use Rattle.bac_segment.specs.Window.{outgoing}
use Rattle.bac_protocol.specs.Service.{Octets, Request, Reply}
use Rattle.bac_protocol.specs.Service.Reply.{Complex}
use Rattle.bac_protocol.specs.Service.Outcome.{Replies}
use Rattle.bac_protocol.specs.Service.Ending.{Answered}
use Rattle.bac_protocol.specs.Log.{StoreModel}
use Rattle.bac_protocol.specs.Log.Fact.{Asked, Performed, Ended}
use Rattle.bac_protocol.specs.Reuse.{reusing_on_apdu}
use Rattle.bac_protocol.specs.Server.{Effect, Reaction, ServerTransaction, State, Transfer}
use Rattle.bac_protocol.specs.Transaction.{Key, server_context}
use Rattle.bac_protocol.specs.Pace.{one_clock}
use Rattle.bac_protocol.specs.World.{Event, start}
use Rattle.bac_protocol.specs.World.Event.{MakeAsk, Deliver, Tick}
use Rattle.bac_protocol.specs.Examples.{Seen, seen, elapse, limits, rules}
use Rattle.bac_reuse.specs.Runs.{Reusing, run_so}

-- a store counts its writes; a reply tells how many there were before
abbrev pub counting : StoreModel ℕ
counting = record {
  outcome = λ s choice octets. Replies (Complex (s ∷ []));
  after = λ s request. if nat_eq request.choice 12 then s else suc s;
  changed = λ s change. s;
  opened = λ store. 0;
}

abbrev pub reusing : Reusing
reusing = record { reuses = λ node. true; reads = λ choice. nat_eq choice 12 }

abbrev pub shows : List Event → Seen
shows events = seen (run_so ℕ counting (rules 32) reusing events (start ℕ one_clock (λ node. 0) (λ node. 0)))

-- node 0 and node 2 ask node 1, each with one invoke ID for ever
abbrev pub from : (client : ℕ) → Key
from client = record { client = client; server = 1; invoke_id = 0 }

abbrev pub on : Octets
on = 1 ∷ []

abbrev pub off : Octets
off = 0 ∷ []

abbrev pub writes : (client : ℕ) → Octets → Event
writes client octets = MakeAsk (from client) 7 true octets []

abbrev pub reads : (client : ℕ) → Event
reads client = MakeAsk (from client) 12 true [] []

-- the client's tickets tick
abbrev pub ticks : (client : ℕ) → Event
ticks client = Tick (from client ∷ []) []

abbrev pub write_apdu : Octets → Apdu
write_apdu octets = ConfirmedRequest (limits true 7) 0 None 7 octets

abbrev pub read_apdu : Apdu
read_apdu = ConfirmedRequest (limits true 7) 0 None 12 []

abbrev pub told : (choice count : ℕ) → Apdu
told choice count = ComplexAck 0 None choice (count ∷ [])

abbrev pub tells : ℕ → Reply
tells count = Complex (count ∷ [])

abbrev pub write : Octets → Request
write octets = record { choice = 7; service = octets }

abbrev pub read : Request
read = record { choice = 12; service = [] }

-- One invoke ID: on, off and on again, each delivered twice, and each performed once; the second copy gets the kept reply. An ask is accepted once the invoke
-- ID is held no more.
abbrev pub WritesAreOnce : Type 0
WritesAreOnce =
    shows (writes 0 on ∷ Deliver 0 true ∷ Deliver 0 true ∷ Deliver 1 true ∷ writes 0 off ∷ elapse 135001
    ∷ writes 0 off ∷ Deliver 3 true ∷ Deliver 3 true ∷ Deliver 4 true ∷ elapse 135001
    ∷ writes 0 on ∷ Deliver 6 true ∷ Deliver 6 true ∷ Deliver 7 true ∷ [])
    ≡ record {
      sent = write_apdu on ∷ told 7 0 ∷ told 7 0 ∷ write_apdu off ∷ told 7 1 ∷ told 7 1 ∷ write_apdu on ∷ told 7 2 ∷ told 7 2 ∷ [];
      log = Ended 2 (Answered (tells 2)) ∷ Performed 2 (write on) (tells 2) ∷ Asked 2 0 1 (write on)
          ∷ Ended 1 (Answered (tells 1)) ∷ Performed 1 (write off) (tells 1) ∷ Asked 1 0 1 (write off)
          ∷ Ended 0 (Answered (tells 0)) ∷ Performed 0 (write on) (tells 0) ∷ Asked 0 0 1 (write on) ∷ [];
      effects = 3;
    }

-- A read is delivered before another client's write and after it, and performed each time: the client ends with the reply that comes first, here the later
-- one. No slot is taken for it: neither delivery finds a free one.
abbrev pub ReadsAreFresh : Type 0
ReadsAreFresh =
    shows (reads 0 ∷ Deliver 0 false ∷ writes 2 on ∷ Deliver 2 true ∷ Deliver 0 false ∷ Deliver 4 true ∷ Deliver 1 true ∷ [])
    ≡ record {
      sent = read_apdu ∷ told 12 0 ∷ write_apdu on ∷ told 7 0 ∷ told 12 1 ∷ [];
      log = Ended 0 (Answered (tells 1)) ∷ Performed 0 read (tells 1) ∷ Performed 1 (write on) (tells 0) ∷ Asked 1 2 1 (write on)
          ∷ Performed 0 read (tells 0) ∷ Asked 0 0 1 read ∷ [];
      effects = 1;
    }

-- A write is performed, and after it a read under that invoke ID; then a write again.
abbrev pub OneInvokeId : Type 0
OneInvokeId =
    shows (writes 0 on ∷ Deliver 0 true ∷ Deliver 1 true ∷ elapse 135001 ∷ reads 0 ∷ Deliver 2 true ∷ Deliver 3 true ∷ elapse 135001
    ∷ writes 0 off ∷ Deliver 4 true ∷ Deliver 4 true ∷ Deliver 5 true ∷ [])
    ≡ record {
      sent = write_apdu on ∷ told 7 0 ∷ read_apdu ∷ told 12 1 ∷ write_apdu off ∷ told 7 1 ∷ told 7 1 ∷ [];
      log = Ended 2 (Answered (tells 1)) ∷ Performed 2 (write off) (tells 1) ∷ Asked 2 0 1 (write off)
          ∷ Ended 1 (Answered (tells 1)) ∷ Performed 1 read (tells 1) ∷ Asked 1 0 1 read
          ∷ Ended 0 (Answered (tells 0)) ∷ Performed 0 (write on) (tells 0) ∷ Asked 0 0 1 (write on) ∷ [];
      effects = 2;
    }

-- A request in two segments, which the client sends and the server takes, with these octets in its first segment and its last.

-- whether more follow, and a number
abbrev pub piece : (more : Bool) → ℕ → Octets → Apdu
piece more number octets = ConfirmedRequest (limits true 7) 0 (Some (record { more = more; number = number; window = 32 })) 7 octets

-- node 1, with that entry, hears both segments in turn: what is performed then, and its entry
abbrev pub hears_pieces : Option ServerTransaction → (first last : Octets) → Reaction
hears_pieces entry first last =
    reusing_on_apdu (server_context (rules 32) (from 0) 0) (counting.outcome 0) reusing.reads
    (reusing_on_apdu (server_context (rules 32) (from 0) 0) (counting.outcome 0) reusing.reads entry true (piece true 0 first)).entry true (piece false 1 last)

abbrev pub performs_pieces : Option ServerTransaction → (first last : Octets) → Option Effect
performs_pieces entry first last = (hears_pieces entry first last).effect

-- the entry that a request in segments leaves, each a write
abbrev pub left_by : (first last : Octets) → Option ServerTransaction
left_by first last = (hears_pieces None first last).entry

-- Two writes in segments under one invoke ID are both performed, where their first segments differ; a repeat is not.
pub record PiecesAreOnce : Type 0 where
  pub first : performs_pieces None on off ≡ Some (record { request = write (on ++ off); reply = tells 0 })
  pub another : performs_pieces (left_by on off) off on ≡ Some (record { request = write (off ++ on); reply = tells 0 })
  pub repeated : performs_pieces (left_by on off) on off ≡ None

-- A reply in two segments, to a request of that choice that came without SEG.

abbrev pub giving : (choice : ℕ) → ServerTransaction
giving choice = record {
  begin = 0;
  choice = choice;
  limits = limits true 7;
  request = Some [];
  first = None;
  state = State.SegmentedResponse (outgoing (on ∷ off ∷ [])) Transfer.Running 0;
}

-- its entry, once node 1 has heard these of its client, the last one first
abbrev pub once_heard : (choice : ℕ) → List Apdu → Option ServerTransaction
once_heard choice [] = Some (giving choice)
once_heard choice (a ∷ heard) =
    (reusing_on_apdu (server_context (rules 32) (from 0) 0) (counting.outcome 0) reusing.reads (once_heard choice heard) true a).entry

abbrev pub acks : (number : ℕ) → Apdu
acks number = SegmentAck false 0 (record { nak = false; number = number; window = 32 })

-- A read ends with its reply: at the SegmentACK of the last segment, and not before, or at an Abort of its client. A write is remembered.
pub record ReadsEnd : Type 0 where
  pub goes_on : is_some (once_heard 12 (acks 0 ∷ [])) ≡ true
  pub another : is_some (once_heard 12 (acks 1 ∷ [])) ≡ true
  pub ends : once_heard 12 (acks 1 ∷ acks 0 ∷ []) ≡ None
  pub aborted : once_heard 12 (Abort false 0 0 ∷ []) ≡ None
  pub remembered : is_some (once_heard 7 (acks 1 ∷ acks 0 ∷ [])) ≡ true

-- Beyond: where what is called a read changes its store, its ask takes effect each time that its request comes.
abbrev pub careless : StoreModel ℕ
careless = record counting { after = λ s request. suc s }

abbrev pub ReadsThatWrite : Type 0
ReadsThatWrite =
    seen (run_so ℕ careless (rules 32) reusing (reads 0 ∷ Deliver 0 true ∷ Deliver 0 true ∷ []) (start ℕ one_clock (λ node. 0) (λ node. 0)))
    ≡ record {
      sent = read_apdu ∷ told 12 0 ∷ told 12 1 ∷ [];
      log = Performed 0 read (tells 1) ∷ Performed 0 read (tells 0) ∷ Asked 0 0 1 read ∷ [];
      effects = 2;
    }
