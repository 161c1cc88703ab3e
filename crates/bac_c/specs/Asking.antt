-- What a C program asks for, and what comes of an ask.
use Rattle.std.specs.Prelude.{◌≡◌, ◌≢◌, ◌↔◌, ◌<◌, ℕ, ℤ, nat_eq, Bool, true, false, if◌then◌else◌, List, [], Option, Some, None, Result, IfErr, IfSome, IsErrOf}
use Rattle.bac_apdu.specs.Apdu.{Limits}
use Rattle.bac_npdu.specs.Peers.{PeerView}
use Rattle.bac_value.specs.Value.{ObjectId}
use Rattle.bac_service.specs.Values as service
use Rattle.bac_service.specs.Values.{Request}
use Rattle.bac_service.specs.Values.Request.{ReadFile, WriteFile, ReadProperty, WriteProperty}
use Rattle.bac_service.specs.Values.ReadAccess.{ReadStream}
use Rattle.bac_service.specs.Values.WriteAccess.{WriteStream}
use Rattle.bac_transaction.specs.Ends.{Accepted}
use Rattle.bac_node.specs.Calls.{Refuses}
use Rattle.bac_requester.specs.declared.ask_fault.AskFault.{AskFault}
use Rattle.bac_requester.specs.declared.ask_fault.AskFault.TheVariants as ask
use Rattle.bac_world.specs.Node.{Node, NodeAsks, Outcome}
use Rattle.bac_c.specs.Devices.{HasRun, Holds, Runs, IsIdle}
use Rattle.bac_c.specs.declared.device.Device.{Device}
use Rattle.bac_c.specs.declared.fault.Fault.{Fault}
use Rattle.bac_c.specs.declared.fault.Fault.TheVariants as fault
use Rattle.bac_c.specs.declared.question.Question.{Question}
use Rattle.bac_c.specs.declared.question.Question.TheVariants as question
use Rattle.bac_c.specs.declared.records.Reference.{Reference}
use Rattle.bac_c.specs.declared.records.Target.{Target}
use Rattle.bac_c.specs.Statuses.{fault_number, BAD_REQUEST, CLOCK_BACK, NOT_OPEN, NOT_STARTED, NO_MEMORY}

abbrev pub index_of : ℕ → Option ℕ
index_of n = if nat_eq n 4294967295 then None else Some n

-- 0 is no priority
abbrev pub priority_of : ℕ → Option ℕ
priority_of n = if nat_eq n 0 then None else Some n

abbrev pub identifier_of : (object_type instance : ℕ) → ObjectId
identifier_of t i = record { kind = t; instance = i }

-- a file is an object of type 10 (clause 12.13)
abbrev pub file_of : (instance : ℕ) → ObjectId
file_of i = identifier_of 10 i

abbrev pub reference_of : Reference → service.Reference
reference_of r = record { object = identifier_of r.object_type r.instance; property = r.property; index = index_of r.index }

abbrev pub read_of : Reference → Request
read_of r = ReadProperty (reference_of r)

abbrev pub write_of : Reference → (values : List ℕ) → (priority : ℕ) → Request
write_of r values p = WriteProperty (reference_of r) values (priority_of p)

abbrev pub put_of : (file : ℕ) → (position : ℤ) → (octets : List ℕ) → Request
put_of f position octets = WriteFile (file_of f) (WriteStream position octets)

abbrev pub get_of : (file : ℕ) → (position : ℤ) → (count : ℕ) → Request
get_of f position count = ReadFile (file_of f) (ReadStream position count)

abbrev pub request_of : Question → Request
request_of (question.Read r) = read_of r
request_of (question.Write r octets p) = write_of r octets.now p
request_of (question.Put f position octets) = put_of f position octets.now
request_of (question.Get f position count) = get_of f position count

abbrev pub peer_of : Target → PeerView
peer_of t = record { link = t.link; route = None }

abbrev pub limits_of : Target → Limits
limits_of t = record { takes_segments = t.takes_segments; max_segments = t.max_segments; max_apdu = t.max_apdu }

-- an ask was accepted under this ticket, and nothing else came of it
pub record IsAsking (now : ℕ) (t : Target) (r : Request) (ticket : ℕ) (old new : Node) (o : Outcome) : Type 0 where
  pub accepted : Accepted
  pub asks : NodeAsks now (peer_of t) (limits_of t) r old new accepted o.sends
  pub ticket_is : ticket ≡ accepted.ticket
  pub performed : o.performed ≡ None
  pub ended : o.ended ≡ []
  pub dropped : o.dropped ≡ None

-- a right request is asked at a moment before the node's latest one
abbrev pub IsEarly : Bool → (now : ℕ) → Device → Type 0
IsEarly right now d = Runs (λ n. (right ≡ true) × (now < n.latest)) d

-- why an ask is refused, of a request that is right or wrong; memory may be refused to a right one alone
abbrev pub AskRefused : Fault → Bool → (now : ℕ) → Target → Request → Device → Type 0
AskRefused fault.ClockBack right now t r d = Runs (λ n. Refuses ask.ClockBack now (peer_of t) (limits_of t) r n) d
AskRefused fault.SelfPeer right now t r d = Runs (λ n. Refuses ask.SelfPeer now (peer_of t) (limits_of t) r n) d
AskRefused fault.TooLong right now t r d = Runs (λ n. Refuses ask.TooLong now (peer_of t) (limits_of t) r n) d
AskRefused fault.NeedsSegments right now t r d = Runs (λ n. Refuses ask.NeedsSegments now (peer_of t) (limits_of t) r n) d
AskRefused fault.NoInvokeId right now t r d = Runs (λ n. Refuses ask.NoInvokeId now (peer_of t) (limits_of t) r n) d
AskRefused fault.NoSlot right now t r d = Runs (λ n. Refuses ask.NoSlot now (peer_of t) (limits_of t) r n) d
AskRefused fault.NotStarted right now t r d = IsIdle d
AskRefused fault.NoMemory right now t r d = Runs (λ n. right ≡ true) d
AskRefused fault.BadRequest right now t r d = Runs (λ n. right ≡ false) d
AskRefused _ right now t r d = ⊥

abbrev pub HasAsked : (now : ℕ) → Target → Request → (ticket : ℕ) → (old new : Option Device) → Type 0
HasAsked now t r ticket = HasRun (IsAsking now t r ticket)

-- the status of an ask says why it was refused, if it was
abbrev pub IsRefusedAsk : (status : ℕ) → Bool → (now : ℕ) → Target → Request → Device → Type 0
IsRefusedAsk status right now t r d = (f : Fault) → status ≡ fault_number f → AskRefused f right now t r d

-- what the fault of an ask says of a device
pub record IsAskFault {X : Type 0} (right : Bool) (now : ℕ) (t : Target) (r : Request) (d : Device) (result : Result X Fault) : Type 0 where
  pub idle : IsErrOf result fault.NotStarted ↔ IsIdle d
  pub bad : IsErrOf result fault.BadRequest ↔ Runs (λ n. right ≡ false) d
  pub early : (IsErrOf result fault.NoMemory → ⊥) → (IsErrOf result fault.ClockBack ↔ IsEarly right now d)
  pub not_closed : IsErrOf result fault.NotOpen → ⊥
  pub why : IfErr result (λ e. AskRefused e right now t r d)

-- what the status of an ask says of what is behind the handle
pub record IsAskStatus (right : Bool) (now : ℕ) (t : Target) (r : Request) (held : Option Device) (status : ℕ) : Type 0 where
  pub closed : (status ≡ NOT_OPEN) ↔ (held ≡ None)
  pub idle : (status ≡ NOT_STARTED) ↔ Holds IsIdle held
  pub bad : (status ≡ BAD_REQUEST) ↔ Holds (Runs (λ n. right ≡ false)) held
  pub early : status ≢ NO_MEMORY → ((status ≡ CLOCK_BACK) ↔ Holds (IsEarly right now) held)
  pub why : IfSome held (IsRefusedAsk status right now t r)

abbrev pub fault_for : AskFault → Fault
fault_for ask.ClockBack = fault.ClockBack
fault_for ask.SelfPeer = fault.SelfPeer
fault_for ask.TooLong = fault.TooLong
fault_for ask.NeedsSegments = fault.NeedsSegments
fault_for ask.NoInvokeId = fault.NoInvokeId
fault_for ask.NoSlot = fault.NoSlot
fault_for ask.NoMemory = fault.NoMemory
