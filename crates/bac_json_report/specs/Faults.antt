-- What is wrong with a datagram, a line or a frame, as JSON: the layer, the number of the fault in it, its text as the plain lines print it, and in words why.
use Rattle.std.specs.Prelude.{ℕ, List, codes}
use Rattle.bac_text.specs.declared.fault.LayerFault.{LayerFault}
use Rattle.bac_text.specs.declared.fault.LayerFault.TheVariants.{Bvll, Npdu, Apdu, Request, ComplexAck}
use Rattle.bac_text.specs.Faults.{apdu_reason, fault_text, frame_reason, kind_reason, layer_name, layer_number}
use Rattle.bac_service.specs.Refusals.{reason_number}
use Rattle.bac_value_text.specs.Reasons.{reject_text}
use Rattle.serde_json.specs.Data.{Data, member, no_members, null, number, object, string, unsigned}

-- why the layer cannot be read, in the words of `decode --text`
abbrev pub reason_of : LayerFault → List ℕ
reason_of (Bvll fault) = frame_reason fault
reason_of (Npdu fault) = frame_reason fault
reason_of (Apdu fault) = apdu_reason fault
reason_of (Request reason) = reject_text (reason_number reason)
reason_of (ComplexAck kind) = kind_reason kind

abbrev pub fault_members : (layer : List ℕ) → (fault : Data) → (text words : List ℕ) → Data
fault_members layer fault text words =
    object (member (codes "layer") (string layer) (member (codes "number") fault (member (codes "text") (string text)
    (member (codes "words") (string words) no_members))))

abbrev pub fault_form : LayerFault → Data
fault_form fault = fault_members (layer_name fault) (number (unsigned (layer_number fault))) (fault_text fault) (reason_of fault)

-- of what is around a datagram: a line or a frame; such a fault has no number
abbrev pub outer_fault_form : (layer text : List ℕ) → Data
outer_fault_form layer text = fault_members layer null text text
