-- The lines that name a service, or a message of the network layer: only in words.
use Rattle.std.specs.Prelude.{ℕ, Bool, true, false, List, [], ◌++◌, codes, Option, Some, None, if◌then◌else◌}
use Rattle.bac_apdu.specs.Apdu.{Apdu, ConfirmedRequest, UnconfirmedRequest, SimpleAck, ComplexAck, SegmentAck}
use Rattle.bac_apdu.specs.Apdu.{Error, Reject, Abort}
use Rattle.bac_npdu.specs.Npdu.{MessageView}
use Rattle.bac_service.specs.Choices.{is_served}
use Rattle.bac_service_text.specs.Members.{line_end}
use Rattle.bac_value_text.specs.Names.{name_in}
use Rattle.bac_text.specs.ServiceNames.{CONFIRMED_SERVICES, NETWORK_MESSAGES, UNCONFIRMED_SERVICES}

-- a confirmed service other than the four, whose requests and answers have lines of their own
abbrev pub other_name : (choice : ℕ) → Option (List ℕ)
other_name choice = if is_served choice then None else name_in CONFIRMED_SERVICES choice

abbrev pub service_name : Apdu → Option (List ℕ)
service_name (ConfirmedRequest limits invoke_id segment choice service) = other_name choice
service_name (UnconfirmedRequest choice service) = name_in UNCONFIRMED_SERVICES choice
service_name (SimpleAck invoke_id choice) = name_in CONFIRMED_SERVICES choice
service_name (ComplexAck invoke_id segment choice service) = other_name choice
service_name (SegmentAck server invoke_id k) = None
service_name (Error invoke_id choice class code) = name_in CONFIRMED_SERVICES choice
service_name (Reject invoke_id reason) = None
service_name (Abort server invoke_id reason) = None

abbrev pub name_lines : (what : List ℕ) → Option (List ℕ) → List ℕ
name_lines what None = []
name_lines what (Some name) = (what ++ (codes " " ++ name)) ++ line_end

abbrev pub service_lines : (in_words : Bool) → Apdu → List ℕ
service_lines false a = []
service_lines true a = name_lines (codes "service") (service_name a)

abbrev pub message_lines : (in_words : Bool) → MessageView → List ℕ
message_lines false m = []
message_lines true m = name_lines (codes "message") (name_in NETWORK_MESSAGES m.kind)
