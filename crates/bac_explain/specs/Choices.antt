-- Services by their choices: whether a reply belongs to the requested service, and whether a server of this profile takes two requests for one.
use Rattle.std.specs.Prelude.{ℕ, Bool, true, false, not, ◌==◌, ◌&&◌, if◌then◌else◌, is_some, List, Option, Some, None, Result, Ok, Err}
use Rattle.bac_apdu.specs.Apdu.{Apdu, ConfirmedRequest, UnconfirmedRequest, SimpleAck, ComplexAck, SegmentAck, Error, Reject, Abort}
use Rattle.bac_apdu.specs.Reading.{apdu_at}
use Rattle.bac_apdu.specs.declared.fault.ApduFault.{ApduFault}
use Rattle.bac_explain.specs.Sent.{are_same}

-- whether a request is a segment, of which only this is used; its service, and its data
pub record AskedView : Type 0 where
  pub in_segments : Bool
  pub choice : ℕ
  pub service : List ℕ

abbrev pub asked_in : Apdu → Option AskedView
asked_in (ConfirmedRequest limits invoke_id segment choice service) =
    Some (record { in_segments = is_some segment; choice = choice; service = service })
asked_in (UnconfirmedRequest choice service) = None
asked_in (SimpleAck invoke_id choice) = None
asked_in (ComplexAck invoke_id segment choice service) = None
asked_in (SegmentAck server invoke_id acknowledgement) = None
asked_in (Error invoke_id choice class code) = None
asked_in (Reject invoke_id reason) = None
asked_in (Abort server invoke_id reason) = None

abbrev pub read_asked : Result Apdu ApduFault → Option AskedView
read_asked (Ok apdu) = asked_in apdu
read_asked (Err fault) = None

abbrev pub asked_by : List ℕ → Option AskedView
asked_by octets = read_asked (apdu_at octets)

-- the service of a reply; a Reject and an Abort have none (clauses 20.1.8 and 20.1.9)
abbrev pub choice_in : Apdu → Option ℕ
choice_in (ConfirmedRequest limits invoke_id segment choice service) = None
choice_in (UnconfirmedRequest choice service) = None
choice_in (SimpleAck invoke_id choice) = Some choice
choice_in (ComplexAck invoke_id segment choice service) = Some choice
choice_in (SegmentAck server invoke_id acknowledgement) = None
choice_in (Error invoke_id choice class code) = Some choice
choice_in (Reject invoke_id reason) = None
choice_in (Abort server invoke_id reason) = None

abbrev pub read_choice : Result Apdu ApduFault → Option ℕ
read_choice (Ok apdu) = choice_in apdu
read_choice (Err fault) = None

abbrev pub answer_choice : List ℕ → Option ℕ
answer_choice octets = read_choice (apdu_at octets)

abbrev pub has_choice : ℕ → Option AskedView → Bool
has_choice choice None = false
has_choice choice (Some a) = a.choice == choice

abbrev pub fits : Option ℕ → Option AskedView → Bool
fits None a = true
fits (Some choice) a = has_choice choice a

-- a reply belongs to the service of a request, or has no service
abbrev pub is_of_service : (request answer : List ℕ) → Bool
is_of_service request answer = fits (answer_choice answer) (asked_by request)

-- whole requests with the same service and data are the same; and after a reply to a segmented one, any segmented one is
abbrev pub is_taken_for : (answered : Bool) → (one other : AskedView) → Bool
is_taken_for answered a b =
    if a.in_segments then b.in_segments && answered else not b.in_segments && a.choice == b.choice && are_same a.service b.service

abbrev pub keeps_answer : (answered : Bool) → (one other : Option AskedView) → Bool
keeps_answer answered (Some a) (Some b) = is_taken_for answered a b
keeps_answer answered (Some a) None = false
keeps_answer answered None b = false
