-- Whether an APDU is the end of a request or a reply (clauses 20.1.2.2 and 20.1.5.2: more-follows).
use Rattle.std.specs.Prelude.{ℕ, Bool, true, false, not, List, Option, Some, None, Result, Ok, Err}
use Rattle.bac_apdu.specs.Apdu.{Segment, Apdu, ConfirmedRequest, UnconfirmedRequest, SimpleAck, ComplexAck, SegmentAck, Error, Reject, Abort}
use Rattle.bac_apdu.specs.Reading.{apdu_at}
use Rattle.bac_apdu.specs.declared.fault.ApduFault.{ApduFault}
use Rattle.bac_explain.specs.Appends.{passes}

-- no more segments follow; true for an unsegmented APDU
abbrev pub is_last : Option Segment → Bool
is_last None = true
is_last (Some s) = not s.more

abbrev pub is_end_in : Apdu → Bool
is_end_in (ConfirmedRequest limits invoke_id segment choice service) = is_last segment
is_end_in (UnconfirmedRequest choice service) = true
is_end_in (SimpleAck invoke_id choice) = true
is_end_in (ComplexAck invoke_id segment choice service) = is_last segment
is_end_in (SegmentAck server invoke_id acknowledgement) = true
is_end_in (Error invoke_id choice class code) = true
is_end_in (Reject invoke_id reason) = true
is_end_in (Abort server invoke_id reason) = true

abbrev pub read_end : Result Apdu ApduFault → Bool
read_end (Ok apdu) = is_end_in apdu
read_end (Err fault) = true

abbrev pub is_end : List ℕ → Bool
is_end octets = read_end (apdu_at octets)

abbrev pub is_server_abort_in : Apdu → Bool
is_server_abort_in (ConfirmedRequest limits invoke_id segment choice service) = false
is_server_abort_in (UnconfirmedRequest choice service) = false
is_server_abort_in (SimpleAck invoke_id choice) = false
is_server_abort_in (ComplexAck invoke_id segment choice service) = false
is_server_abort_in (SegmentAck server invoke_id acknowledgement) = false
is_server_abort_in (Error invoke_id choice class code) = false
is_server_abort_in (Reject invoke_id reason) = false
is_server_abort_in (Abort server invoke_id reason) = server

-- an Abort of a server
abbrev pub is_server_abort : List ℕ → Bool
is_server_abort octets = passes is_server_abort_in (apdu_at octets)
