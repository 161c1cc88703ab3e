-- What is asked.
use Rattle.std.specs.Prelude.{◌≡◌, ℕ, List, Option, Some, None, Result, Ok, Err, ⊤}
use Rattle.bac_npdu.specs.Peers.{PeerView}
use Rattle.bac_protocol.specs.Service.{Octets}
use Rattle.bac_service.specs.Values.{Request}
use Rattle.bac_service_text.specs.Dispatch.{request_of}
use Rattle.bac_service_text.specs.declared.form_fault.FormFault.{FormFault}
use Rattle.bac_service_text.specs.declared.form_fault.FormFault.TheVariants.{NoForm, NoMemory}
use Rattle.bac_driver.specs.Asking as plain
use Rattle.bac_driver.specs.Views.{question_view}
use Rattle.bac_driver.specs.declared.question.Question.{Question}
use Rattle.bac_commands.specs.Houses.{most_limits}

-- the peer at an address, behind no router
abbrev pub peer_at : (link : Octets) → PeerView
peer_at link = record { link = link; route = None }

-- a question for a peer
abbrev pub question_for : PeerView → Request → plain.Question
question_for peer request = record { peer = peer; limits = most_limits; request = request }

-- the question that some words are
abbrev pub question_of : PeerView → Option Request → Option plain.Question
question_of peer None = None
question_of peer (Some request) = Some (question_for peer request)

abbrev pub IsQuestion : PeerView → (words : List (List ℕ)) → plain.Question → Type 0
IsQuestion peer words q = question_of peer (request_of words) ≡ Some q

-- it is read, or there is a fault: the words are no request, or memory was refused
abbrev pub ReadsQuestion : PeerView → (words : List (List ℕ)) → Result Question FormFault → Type 0
ReadsQuestion peer words (Ok q) = IsQuestion peer words (question_view q)
ReadsQuestion peer words (Err NoForm) = request_of words ≡ None
ReadsQuestion peer words (Err NoMemory) = ⊤
