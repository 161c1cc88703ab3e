-- The texts that are printed, each as the octets of its characters.
use Rattle.std.specs.Prelude.{ℕ, Bool, true, false, List, [], ◌++◌, codes, decimal, Option, None}
use Rattle.hex.specs.Hex.{encode_upper}
use Rattle.bac_apdu.specs.Apdu.{Segment, Apdu, ConfirmedRequest, UnconfirmedRequest, SimpleAck, ComplexAck, SegmentAck}
use Rattle.bac_apdu.specs.Apdu.{Error, Reject, Abort}
use Rattle.bac_npdu.specs.Npdu.{NpduView, DestinationView, MessageView}
use Rattle.bac_npdu.specs.Peers.{RouteView}
use Rattle.bac_value_text.specs.Reasons as reasons
pub use Rattle.bac_service_text.specs.Dispatch.{IsComplexText, IsRequestText}
pub use Rattle.bac_service_text.specs.Members.{AppendsLine, AppendsText, Is, bit_text, line_end, optional}
use Rattle.bac_text.specs.declared.fault.LineFault.{LineFault}
use Rattle.bac_text.specs.declared.fault.LineFault.TheVariants.{NoCaptureLine, MomentGoesBack, Datagram}
use Rattle.bac_text.specs.Faults.{printed_fault}

-- a network and an address on it, after a name
abbrev pub place_text : List ℕ → ℕ → List ℕ → List ℕ
place_text name network address = codes " " ++ (name ++ (codes "=" ++ (decimal network ++ (codes ":" ++ encode_upper address))))

-- ---- the line of a BVLL, of so many octets

abbrev pub bvll_text : ℕ → List ℕ
bvll_text len = (codes "bvll len=" ++ decimal len) ++ line_end

-- ---- the line of an NPDU

abbrev pub destination_text : DestinationView → List ℕ
destination_text d = place_text (codes "to") d.network d.address ++ (codes " hops=" ++ decimal d.hops)

abbrev pub source_text : RouteView → List ℕ
source_text r = place_text (codes "from") r.network r.address

abbrev pub vendor_text : ℕ → List ℕ
vendor_text vendor = codes " vendor=" ++ decimal vendor

abbrev pub message_text : List ℕ → MessageView → List ℕ
message_text contents m =
    codes " message=" ++ (decimal m.kind ++ (optional vendor_text m.vendor ++ (codes " raw=" ++ encode_upper contents)))

unfoldable pub npdu_members : NpduView → List ℕ
npdu_members n =
    codes "npdu expecting=" ++ (bit_text n.expecting ++ (codes " priority=" ++ (decimal n.priority
    ++ (optional destination_text n.destination ++ (optional source_text n.source ++ optional (message_text n.contents) n.message)))))

unfoldable pub npdu_text : NpduView → List ℕ
npdu_text n = npdu_members n ++ line_end

-- ---- the line of an APDU

-- the numbers of a segment
abbrev pub segment_text : Segment → List ℕ
segment_text s = codes " seq=" ++ (decimal s.number ++ (codes " win=" ++ (decimal s.window ++ (codes " more=" ++ bit_text s.more))))

-- the numbers of a segment, if the APDU is one, the service choice and the service data
abbrev pub body_text : Option Segment → ℕ → List ℕ → List ℕ
body_text segment choice service =
    optional segment_text segment ++ (codes " choice=" ++ (decimal choice ++ (codes " data=" ++ encode_upper service)))

-- in words: class, code and reasons by their names, and both by number behind them
abbrev pub error_end : (in_words : Bool) → ℕ → ℕ → List ℕ
error_end false class code = codes "class=" ++ (decimal class ++ (codes " code=" ++ decimal code))
error_end true class code = reasons.error_text class code

abbrev pub reject_end : (in_words : Bool) → ℕ → List ℕ
reject_end false reason = codes "reason=" ++ decimal reason
reject_end true reason = reasons.reject_text reason

abbrev pub abort_end : (in_words : Bool) → ℕ → List ℕ
abort_end false reason = codes "reason=" ++ decimal reason
abort_end true reason = reasons.abort_text reason

-- an APDU without service data; nothing for others
abbrev pub plain_members_text : (in_words : Bool) → Apdu → List ℕ
plain_members_text in_words (SimpleAck invoke_id choice) = codes "simple-ack id=" ++ (decimal invoke_id ++ (codes " choice=" ++ decimal choice))
plain_members_text in_words (SegmentAck server invoke_id k) =
    codes "segment-ack nak=" ++ (bit_text k.nak ++ (codes " srv=" ++ (bit_text server ++ (codes " id=" ++ (decimal invoke_id
    ++ (codes " seq=" ++ (decimal k.number ++ (codes " win=" ++ decimal k.window))))))))
plain_members_text in_words (Error invoke_id choice class code) =
    codes "error id=" ++ (decimal invoke_id ++ (codes " choice=" ++ (decimal choice ++ (codes " " ++ error_end in_words class code))))
plain_members_text in_words (Reject invoke_id reason) = codes "reject id=" ++ (decimal invoke_id ++ (codes " " ++ reject_end in_words reason))
plain_members_text in_words (Abort server invoke_id reason) =
    codes "abort srv=" ++ (bit_text server ++ (codes " id=" ++ (decimal invoke_id ++ (codes " " ++ abort_end in_words reason))))
plain_members_text in_words _ = []

unfoldable pub members_text : (in_words : Bool) → Apdu → List ℕ
members_text in_words (ConfirmedRequest limits invoke_id segment choice service) =
    codes "confirmed-request sa=" ++ (bit_text limits.takes_segments ++ (codes " segs=" ++ (decimal limits.max_segments
    ++ (codes " apdu=" ++ (decimal limits.max_apdu ++ (codes " id=" ++ (decimal invoke_id ++ body_text segment choice service)))))))
members_text in_words (UnconfirmedRequest choice service) = codes "unconfirmed-request" ++ body_text None choice service
members_text in_words (ComplexAck invoke_id segment choice service) =
    codes "complex-ack id=" ++ (decimal invoke_id ++ body_text segment choice service)
members_text in_words apdu = plain_members_text in_words apdu

unfoldable pub apdu_text : (in_words : Bool) → Apdu → List ℕ
apdu_text in_words a = members_text in_words a ++ line_end

-- ---- what is wrong with a line of a capture

abbrev pub line_fault_text : (in_words : Bool) → LineFault → List ℕ
line_fault_text in_words NoCaptureLine = codes "not a capture line"
line_fault_text in_words MomentGoesBack = codes "moment goes back"
line_fault_text in_words (Datagram fault function) = printed_fault in_words function fault
