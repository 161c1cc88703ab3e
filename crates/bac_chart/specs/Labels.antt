-- What a datagram is, in short.
use Rattle.std.specs.Prelude.{ℕ, Bool, true, false, List, ◌++◌, codes, decimal, Option, Some, None, Result, Ok, Err}
use Rattle.bac_apdu.specs.Apdu.{Apdu, Segment, ConfirmedRequest, UnconfirmedRequest, SimpleAck, ComplexAck, SegmentAck, Error, Reject, Abort}
use Rattle.bac_apdu.specs.Reading.{apdu_at}
use Rattle.bac_apdu.specs.declared.fault.ApduFault.{ApduFault}
use Rattle.bac_npdu.specs.Npdu.{NpduView, MessageView}
use Rattle.bac_npdu.specs.Reading.{bvll_at, npdu_at}
use Rattle.bac_npdu.specs.declared.fault.FrameFault.{FrameFault}
use Rattle.bac_service.specs.Services.{request_at}
use Rattle.bac_service_text.specs.Reasons.{abort_words, error_words}
use Rattle.bac_service_text.specs.ServiceData.{found_request_label}
use Rattle.bac_value_text.specs.Reasons.{reject_text}

-- ---- APDUs

abbrev pub request_words : Option Segment → (choice : ℕ) → (service : List ℕ) → List ℕ
request_words None choice service = found_request_label (request_at choice service)
request_words (Some s) choice service = codes "request segment " ++ decimal s.number

abbrev pub complex_words : Option Segment → List ℕ
complex_words None = codes "complex-ack"
complex_words (Some s) = codes "reply segment " ++ decimal s.number

abbrev pub segment_ack_words : (nak : Bool) → (number : ℕ) → List ℕ
segment_ack_words false number = codes "segment-ack " ++ decimal number
segment_ack_words true number = codes "negative segment-ack " ++ decimal number

abbrev pub reject_words : (reason : ℕ) → List ℕ
reject_words reason = codes "reject " ++ reject_text reason

abbrev pub apdu_words : Apdu → List ℕ
apdu_words (ConfirmedRequest limits invoke_id segment choice service) = request_words segment choice service
apdu_words (UnconfirmedRequest choice service) = codes "unconfirmed-request"
apdu_words (SimpleAck invoke_id choice) = codes "simple-ack"
apdu_words (ComplexAck invoke_id segment choice service) = complex_words segment
apdu_words (SegmentAck server invoke_id k) = segment_ack_words k.nak k.number
apdu_words (Error invoke_id choice class code) = error_words class code
apdu_words (Reject invoke_id reason) = reject_words reason
apdu_words (Abort server invoke_id reason) = abort_words reason

-- ---- datagrams

abbrev pub octets_words : List ℕ
octets_words = codes "octets"

abbrev pub read_words : Result Apdu ApduFault → List ℕ
read_words (Ok a) = apdu_words a
read_words (Err f) = octets_words

abbrev pub contents_words : Option MessageView → (contents : List ℕ) → List ℕ
contents_words None contents = read_words (apdu_at contents)
contents_words (Some m) contents = codes "network-message"

abbrev pub npdu_words : Result NpduView FrameFault → List ℕ
npdu_words (Ok n) = contents_words n.message n.contents
npdu_words (Err f) = octets_words

abbrev pub bvll_words : Result (List ℕ) FrameFault → List ℕ
bvll_words (Ok octets) = npdu_words (npdu_at octets)
bvll_words (Err f) = octets_words

abbrev pub datagram_words : List ℕ → List ℕ
datagram_words octets = bvll_words (bvll_at octets)
