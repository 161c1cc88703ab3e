-- The name that the standard has for what a datagram is.
use Rattle.std.specs.Prelude.{ℕ, List, Option, Some, None, Result, Ok, Err}
use Rattle.bac_apdu.specs.Apdu.{Apdu, ConfirmedRequest, UnconfirmedRequest, SimpleAck, ComplexAck, SegmentAck}
use Rattle.bac_apdu.specs.Apdu.{Error, Reject, Abort}
use Rattle.bac_apdu.specs.Reading.{apdu_at}
use Rattle.bac_apdu.specs.declared.fault.ApduFault.{ApduFault}
use Rattle.bac_npdu.specs.Npdu.{NpduView, MessageView}
use Rattle.bac_npdu.specs.Reading.{bvll_at, npdu_at}
use Rattle.bac_npdu.specs.declared.fault.FrameFault.{FrameFault}
use Rattle.bac_text.specs.Bvlc.{function_name as name_of_function, other_bvll_of}
use Rattle.bac_text.specs.ServiceNames.{CONFIRMED_SERVICES, NETWORK_MESSAGES, UNCONFIRMED_SERVICES}
use Rattle.bac_text.specs.declared.bvlc.OtherBvll.{OtherBvll}
use Rattle.bac_text.specs.declared.bvlc.OtherBvll.TheVariants as other
use Rattle.bac_value_text.specs.Names.{name_in}

-- the service of an APDU
abbrev pub service_name : Apdu → Option (List ℕ)
service_name (ConfirmedRequest limits invoke_id segment choice service) = name_in CONFIRMED_SERVICES choice
service_name (UnconfirmedRequest choice service) = name_in UNCONFIRMED_SERVICES choice
service_name (SimpleAck invoke_id choice) = name_in CONFIRMED_SERVICES choice
service_name (ComplexAck invoke_id segment choice service) = name_in CONFIRMED_SERVICES choice
service_name (SegmentAck server invoke_id k) = None
service_name (Error invoke_id choice class code) = name_in CONFIRMED_SERVICES choice
service_name (Reject invoke_id reason) = None
service_name (Abort server invoke_id reason) = None

abbrev pub apdu_name : Result Apdu ApduFault → Option (List ℕ)
apdu_name (Ok a) = service_name a
apdu_name (Err fault) = None

-- a message of the network layer, or the service of the APDU in an NPDU
abbrev pub contents_name : Option MessageView → (contents : List ℕ) → Option (List ℕ)
contents_name None contents = apdu_name (apdu_at contents)
contents_name (Some message) contents = name_in NETWORK_MESSAGES message.kind

abbrev pub npdu_name : Result NpduView FrameFault → Option (List ℕ)
npdu_name (Ok n) = contents_name n.message n.contents
npdu_name (Err fault) = None

-- another function than Original-Unicast-NPDU, over IPv4
abbrev pub function_name : Option OtherBvll → Option (List ℕ)
function_name (Some (other.Ipv4 function)) = Some (name_of_function function)
function_name (Some other.Ipv6) = None
function_name None = None

abbrev pub bvll_name : (datagram : List ℕ) → Result (List ℕ) FrameFault → Option (List ℕ)
bvll_name datagram (Ok n) = npdu_name (npdu_at n)
bvll_name datagram (Err fault) = function_name (other_bvll_of datagram)

-- of what can be read of a datagram: the service of its APDU, or its message of the network layer; of another BVLL its function
abbrev pub name_at : (datagram : List ℕ) → Option (List ℕ)
name_at datagram = bvll_name datagram (bvll_at datagram)
