-- Appends to files (clause 14.2), and the replies to them. Two different replies have two positions, so the request was performed twice.
use Rattle.std.specs.Prelude.{ℕ, ℤ, Bool, true, false, ◌==◌, ◌&&◌, if◌then◌else◌, is_ok, List, Option, Some, None, Result, Ok, Err}
use Rattle.bac_apdu.specs.Apdu.{Apdu, ConfirmedRequest, UnconfirmedRequest, SimpleAck, ComplexAck, SegmentAck, Error, Reject, Abort}
use Rattle.bac_apdu.specs.Reading.{apdu_at}
use Rattle.bac_apdu.specs.declared.fault.ApduFault.{ApduFault}
use Rattle.bac_service.specs.declared.service.TheConstants.{ATOMIC_WRITE_FILE}
use Rattle.bac_service.specs.Services.{request_at, complex_at}
use Rattle.bac_service.specs.Values.{is_end, start_asked}
use Rattle.bac_service.specs.Values.{Request}

-- its start is -1, the end of the file
abbrev pub starts_at_end : Option ℤ → Bool
starts_at_end None = false
starts_at_end (Some start) = is_end start

abbrev pub are_append_data : Result Request ℕ → Bool
are_append_data (Ok request) = starts_at_end (start_asked request)
are_append_data (Err reason) = false

-- a whole request of AtomicWriteFile that appends
abbrev pub is_append_in : Apdu → Bool
is_append_in (ConfirmedRequest limits invoke_id None choice service) =
    if choice == ATOMIC_WRITE_FILE then are_append_data (request_at ATOMIC_WRITE_FILE service) else false
is_append_in (ConfirmedRequest limits invoke_id (Some segment) choice service) = false
is_append_in (UnconfirmedRequest choice service) = false
is_append_in (SimpleAck invoke_id choice) = false
is_append_in (ComplexAck invoke_id segment choice service) = false
is_append_in (SegmentAck server invoke_id acknowledgement) = false
is_append_in (Error invoke_id choice class code) = false
is_append_in (Reject invoke_id reason) = false
is_append_in (Abort server invoke_id reason) = false

-- a whole ComplexACK of AtomicWriteFile with a position or a record number
abbrev pub is_written_in : Apdu → Bool
is_written_in (ConfirmedRequest limits invoke_id segment choice service) = false
is_written_in (UnconfirmedRequest choice service) = false
is_written_in (SimpleAck invoke_id choice) = false
is_written_in (ComplexAck invoke_id None choice service) =
    if choice == ATOMIC_WRITE_FILE then is_ok (complex_at ATOMIC_WRITE_FILE service) else false
is_written_in (ComplexAck invoke_id (Some segment) choice service) = false
is_written_in (SegmentAck server invoke_id acknowledgement) = false
is_written_in (Error invoke_id choice class code) = false
is_written_in (Reject invoke_id reason) = false
is_written_in (Abort server invoke_id reason) = false

-- the octets are an APDU that passes a test
abbrev pub passes : (Apdu → Bool) → Result Apdu ApduFault → Bool
passes test (Ok apdu) = test apdu
passes test (Err fault) = false

abbrev pub is_append : List ℕ → Bool
is_append octets = passes is_append_in (apdu_at octets)

abbrev pub is_written : List ℕ → Bool
is_written octets = passes is_written_in (apdu_at octets)

abbrev pub is_performed_twice : (request first other : List ℕ) → Bool
is_performed_twice request first other = is_append request && is_written first && is_written other
