-- The role of an APDU in its transaction (clause 5.4): which side sent it, and whether it is a request, a reply, a SegmentACK or an Abort.
use Rattle.std.specs.Prelude.{ℕ, Bool, true, false, not, Option, Some, None}
use Rattle.bac_apdu.specs.Apdu.{Segment, Acknowledgement, Apdu, ConfirmedRequest, UnconfirmedRequest, SimpleAck, ComplexAck, SegmentAck, Error, Reject, Abort}
use Rattle.bac_explain.specs.declared.part.Part.{Part}
use Rattle.bac_explain.specs.declared.part.Role.{Role}
use Rattle.bac_explain.specs.declared.part.Role.TheVariants as role
use Rattle.bac_explain.specs.declared.part.Role.TheVariants.{Request, Answer, GivesUp}
use Rattle.bac_explain.specs.declared.part.Taken.{Taken}

-- an unsegmented APDU has no number
abbrev pub number_of : Option Segment → Option ℕ
number_of None = None
number_of (Some s) = Some s.number

abbrev pub by_client : ℕ → Role → Option Part
by_client invoke_id role = Some (record { by_client = true; invoke_id = invoke_id; role = role })

abbrev pub by_server : ℕ → Role → Option Part
by_server invoke_id role = Some (record { by_client = false; invoke_id = invoke_id; role = role })

-- an Abort of the client ends the transaction; one of the server counts as a reply
abbrev pub abort_part : Bool → ℕ → Option Part
abort_part true invoke_id = by_server invoke_id (Answer None)
abort_part false invoke_id = by_client invoke_id GivesUp

-- the server acknowledges segments of the request, the client those of the reply
abbrev pub taken_of : (server : Bool) → Acknowledgement → Taken
taken_of server a = record { of_request = server; nak = a.nak; number = a.number; window = a.window }

abbrev pub part_of : Apdu → Option Part
part_of (ConfirmedRequest limits invoke_id segment choice service) = by_client invoke_id (Request (number_of segment))
part_of (UnconfirmedRequest choice service) = None
part_of (SimpleAck invoke_id choice) = by_server invoke_id (Answer None)
part_of (ComplexAck invoke_id segment choice service) = by_server invoke_id (Answer (number_of segment))
part_of (SegmentAck server invoke_id acknowledgement) =
    Some (record { by_client = not server; invoke_id = invoke_id; role = role.Acknowledgement (taken_of server acknowledgement) })
part_of (Error invoke_id choice class code) = by_server invoke_id (Answer None)
part_of (Reject invoke_id reason) = by_server invoke_id (Answer None)
part_of (Abort server invoke_id reason) = abort_part server invoke_id
