-- The name and the number by which a fault is printed.
use Rattle.std.specs.Prelude.{ℕ, Bool, true, false, List, [], ◌∷◌, codes, ◌++◌, decimal, Option, Some, None}
use Rattle.hex.specs.Hex.{encode_upper}
use Rattle.bac_apdu.specs.declared.fault.ApduFault.{ApduFault}
use Rattle.bac_apdu.specs.declared.fault.ApduFault.TheVariants as apdu_fault
use Rattle.bac_npdu.specs.declared.fault.FrameFault.{FrameFault}
use Rattle.bac_npdu.specs.declared.fault.FrameFault.TheVariants as frame_fault
use Rattle.bac_value.specs.declared.fault.FaultKind.{FaultKind}
use Rattle.bac_value.specs.declared.fault.FaultKind.TheVariants as kind
use Rattle.bac_value_text.specs.Reasons.{reject_text}
use Rattle.bac_apdu.specs.Faults as apdu
use Rattle.bac_npdu.specs.Faults as frame
use Rattle.bac_value.specs.Faults as element
use Rattle.bac_service.specs.Refusals.{reason_number}
use Rattle.bac_text.specs.declared.fault.LayerFault.{LayerFault}
use Rattle.bac_text.specs.declared.fault.LayerFault.TheVariants.{Bvll, Npdu, Apdu, Request, ComplexAck}

abbrev pub layer_name : LayerFault → List ℕ
layer_name (Bvll fault) = codes "bvll"
layer_name (Npdu fault) = codes "npdu"
layer_name (Apdu fault) = codes "apdu"
layer_name (Request reason) = codes "reject"
layer_name (ComplexAck kind) = codes "data"

abbrev pub layer_number : LayerFault → ℕ
layer_number (Bvll fault) = frame.fault_number fault
layer_number (Npdu fault) = frame.fault_number fault
layer_number (Apdu fault) = apdu.fault_number fault
layer_number (Request reason) = reason_number reason
layer_number (ComplexAck kind) = element.fault_number kind

-- the text of a fault
abbrev pub fault_text : LayerFault → List ℕ
fault_text fault = codes "fault " ++ (layer_name fault ++ (codes " " ++ decimal (layer_number fault)))

-- ---- in words

abbrev pub frame_reason : FrameFault → List ℕ
frame_reason frame_fault.Truncated = codes "truncated"
frame_reason frame_fault.Version = codes "another version"
frame_reason frame_fault.ReservedBits = codes "reserved bits"
frame_reason frame_fault.BadNet = codes "bad network number"
frame_reason frame_fault.BadLength = codes "bad length"
frame_reason frame_fault.NotUnicast = codes "not Original-Unicast-NPDU"

abbrev pub apdu_reason : ApduFault → List ℕ
apdu_reason apdu_fault.Truncated = codes "truncated"
apdu_reason apdu_fault.ReservedBits = codes "reserved bits"
apdu_reason apdu_fault.ReservedCode = codes "reserved max-APDU code"
apdu_reason apdu_fault.BadWindow = codes "bad window"
apdu_reason apdu_fault.BadType = codes "bad type"
apdu_reason apdu_fault.Trailing = codes "octets after the last member"
apdu_reason apdu_fault.MorWithoutSeg = codes "more-follows without segmented-message"
apdu_reason apdu_fault.BadError = codes "class or code is not Enumerated"

abbrev pub kind_reason : FaultKind → List ℕ
kind_reason kind.Truncated = codes "truncated"
kind_reason kind.ReservedTag = codes "reserved tag"
kind_reason kind.LongForm = codes "long form"
kind_reason kind.BadLength = codes "bad length"
kind_reason kind.NotShortest = codes "not the shortest number"
kind_reason kind.Unbalanced = codes "unbalanced tags"
kind_reason kind.TooDeep = codes "too many open tags"
kind_reason kind.ReservedBits = codes "reserved bits"

-- a text in brackets behind that of a fault
abbrev pub fault_because : LayerFault → List ℕ → List ℕ
fault_because fault reason = fault_text fault ++ (codes " (" ++ (reason ++ codes ")"))

-- the function of a BVLL, if it is there
abbrev pub function_in : (datagram : List ℕ) → Option ℕ
function_in (version ∷ function ∷ octets) = Some function
function_in octets = None

abbrev pub function_digits : (function : Option ℕ) → List ℕ
function_digits (Some function) = encode_upper (function ∷ [])
function_digits None = []

abbrev pub function_reason : (function : Option ℕ) → List ℕ
function_reason function = codes "function " ++ (function_digits function ++ codes ": not Original-Unicast-NPDU")

-- of a BVLL of another function that function too, and of a request the reason of its Reject by name
abbrev pub bvll_words : (function : Option ℕ) → FrameFault → List ℕ
bvll_words function frame_fault.NotUnicast = fault_because (Bvll frame_fault.NotUnicast) (function_reason function)
bvll_words function fault = fault_because (Bvll fault) (frame_reason fault)

abbrev pub fault_words : (function : Option ℕ) → LayerFault → List ℕ
fault_words function (Bvll fault) = bvll_words function fault
fault_words function (Npdu fault) = fault_because (Npdu fault) (frame_reason fault)
fault_words function (Apdu fault) = fault_because (Apdu fault) (apdu_reason fault)
fault_words function (Request reason) = codes "fault reject " ++ reject_text (reason_number reason)
fault_words function (ComplexAck kind) = fault_because (ComplexAck kind) (kind_reason kind)

abbrev pub printed_fault : (in_words : Bool) → (function : Option ℕ) → LayerFault → List ℕ
printed_fault false function fault = fault_text fault
printed_fault true function fault = fault_words function fault
