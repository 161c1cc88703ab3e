-- Which datagrams have a fault, and in which layer.
use Rattle.std.specs.Prelude.{◌≡◌, ℕ, List, Option, Some, None, Result, Ok, Err, if◌then◌else◌}
use Rattle.bac_apdu.specs.Apdu.{Apdu, ConfirmedRequest, ComplexAck}
use Rattle.bac_apdu.specs.Spelling.{SpellsApdu, IsNoApdu}
use Rattle.bac_apdu.specs.Reading.{apdu_at}
use Rattle.bac_npdu.specs.Reading.{bvll_at, npdu_at}
use Rattle.bac_npdu.specs.Npdu.{NpduView, MessageView, SpellsNpdu, SpellsBvll}
use Rattle.bac_npdu.specs.Datagram.{IsFrameOf}
use Rattle.bac_value.specs.declared.fault.Fault.{Fault}
use Rattle.bac_value.specs.declared.fault.FaultKind.{FaultKind}
use Rattle.bac_service.specs.declared.reject.Reject.{Reject}
use Rattle.bac_service.specs.Refusals.{reason_number}
use Rattle.bac_service.specs.Services.{request_at, complex_at}
use Rattle.bac_service.specs.Choices.{is_served, has_complex_ack}
use Rattle.bac_service.specs.Values.{Request, Complex}
use Rattle.bac_service.specs.Requests.{SpellsRequest}
use Rattle.bac_service.specs.Replies.{SpellsComplex}
use Rattle.bac_text.specs.declared.fault.LayerFault.{LayerFault}
use Rattle.bac_text.specs.declared.fault.LayerFault.TheVariants as fault

-- ---- what is read of an APDU's service data

-- a service choice, and service data
abbrev pub Service : Type 0
Service = ℕ × List ℕ

-- a request of one of the four services that is no segment
abbrev pub request_data_in : Apdu → Option Service
request_data_in (ConfirmedRequest limits invoke_id None choice service) = if is_served choice then Some (choice, service) else None
request_data_in _ = None

-- a ComplexACK of one of the services that is no segment
abbrev pub complex_data_in : Apdu → Option Service
complex_data_in (ComplexAck invoke_id None choice service) = if has_complex_ack choice then Some (choice, service) else None
complex_data_in _ = None

-- the service data spell this request; where none is to be read, there is none
abbrev pub IsRequestIn : Option Service → Option Request → Type 0
IsRequestIn None None = Unit {0}
IsRequestIn (Some s) (Some r) = SpellsRequest s.0 r s.1
IsRequestIn None (Some r) = ⊥
IsRequestIn (Some s) None = ⊥

abbrev pub IsComplexIn : Option Service → Option Complex → Type 0
IsComplexIn None None = Unit {0}
IsComplexIn (Some s) (Some c) = SpellsComplex s.0 c s.1
IsComplexIn None (Some c) = ⊥
IsComplexIn (Some s) None = ⊥

-- a request is to be read, and the service data spell none
abbrev pub HasNoRequest : Option Service → Type 0
HasNoRequest None = ⊥
HasNoRequest (Some s) = (r : Request) → SpellsRequest s.0 r s.1 → ⊥

abbrev pub HasNoComplex : Option Service → Type 0
HasNoComplex None = ⊥
HasNoComplex (Some s) = (c : Complex) → SpellsComplex s.0 c s.1 → ⊥

-- reading that request stops for this reason
abbrev pub IsReason : Option Service → Reject → Type 0
IsReason None reason = ⊥
IsReason (Some s) reason = request_at s.0 s.1 ≡ Err (reason_number reason)

-- the kind of the fault where reading stopped
abbrev pub kind_in : Result Complex Fault → Option FaultKind
kind_in (Ok c) = None
kind_in (Err fault) = Some fault.kind

-- reading the service data of that ComplexACK stops at a fault of this kind
abbrev pub IsKind : Option Service → FaultKind → Type 0
IsKind None kind = ⊥
IsKind (Some s) kind = kind_in (complex_at s.0 s.1) ≡ Some kind

-- ---- datagrams without a fault

-- the octets are an APDU, and where it is a whole request or ComplexACK of one of the services, its service data spell one
pub record IsFineApdu (octets : List ℕ) : Type 0 where
  pub apdu : Apdu
  pub spelled : SpellsApdu apdu octets
  pub request : Option Request
  pub is_request : IsRequestIn (request_data_in apdu) request
  pub complex : Option Complex
  pub is_complex : IsComplexIn (complex_data_in apdu) complex

-- the contents of a network message are raw
abbrev pub IsFineContent : Option MessageView → List ℕ → Type 0
IsFineContent None octets = IsFineApdu octets
IsFineContent (Some message) octets = Unit {0}

-- the datagram is a BVLL of an NPDU, whose contents are right
pub record IsFine (datagram : List ℕ) : Type 0 where
  pub npdu : NpduView
  pub frame : IsFrameOf npdu datagram
  pub content : IsFineContent npdu.message npdu.contents

-- ---- datagrams with a fault

-- the datagram carries these octets where an APDU is to be
pub record CarriesOctets (datagram octets : List ℕ) : Type 0 where
  pub npdu : NpduView
  pub frame : IsFrameOf npdu datagram
  pub no_message : npdu.message ≡ None
  pub is : octets ≡ npdu.contents

-- the datagram carries this APDU
pub record CarriesApdu (datagram : List ℕ) (apdu : Apdu) : Type 0 where
  pub octets : List ℕ
  pub carries : CarriesOctets datagram octets
  pub spelled : SpellsApdu apdu octets

-- every layer around the one at fault is right, and the fault is what its reader answers
abbrev pub IsAtFault : List ℕ → LayerFault → Type 0
IsAtFault datagram (fault.Bvll number) = (bvll_at datagram ≡ Err number) × ((n : List ℕ) → SpellsBvll n datagram → ⊥)
IsAtFault datagram (fault.Npdu number) = (n : List ℕ) × (SpellsBvll n datagram × ((npdu_at n ≡ Err number) × ((v : NpduView) → SpellsNpdu v n → ⊥)))
IsAtFault datagram (fault.Apdu number) = (octets : List ℕ) × (CarriesOctets datagram octets × ((apdu_at octets ≡ Err number) × IsNoApdu octets))
IsAtFault datagram (fault.Request reason) = (a : Apdu) × (CarriesApdu datagram a × (HasNoRequest (request_data_in a) × IsReason (request_data_in a) reason))
IsAtFault datagram (fault.ComplexAck kind) = (a : Apdu) × (CarriesApdu datagram a × (HasNoComplex (complex_data_in a) × IsKind (complex_data_in a) kind))
