-- What `ask` asks and prints: a client asks the one request of some words.
use Rattle.std.specs.Prelude.{◌≡◌, ℕ, Bool, true, false, List, Option, None, Some, IfSome, Result, Ok, Err, ⊤}
use Rattle.std.specs.Io.KnownBytes.{Keeps}
use Rattle.bac_npdu.specs.Peers.{PeerView}
use Rattle.bac_service.specs.Values.{Request}
use Rattle.bac_service_text.specs.Dispatch.{reads_file, request_of}
use Rattle.bac_service_text.specs.declared.form_fault.FormFault.{FormFault}
use Rattle.bac_service_text.specs.declared.form_fault.FormFault.TheVariants.{NoForm, NoMemory}
use Rattle.bac_text.specs.declared.status.Status.{Status}
use Rattle.bac_driver.specs.Asking.{Question}
use Rattle.bac_driver.specs.Runs.{Timed}
use Rattle.bac_driver.specs.Views.{question_view}
use Rattle.bac_driver.specs.declared.question.AskEnd.{AskEnd}
use Rattle.bac_driver.specs.declared.question.Question as code
use Rattle.bac_commands.specs.Questions.{IsQuestion}
use Rattle.bac_commands.specs.Statuses.{ByStatus}
use Rattle.bac_commands.specs.declared.online.output_format.Style.{Style}
use Rattle.bac_commands.specs.declared.online.output_format.Style.TheVariants as style
use Rattle.bac_environment.specs.QuestionLines.{no_line}
use Rattle.bac_asking.specs.Clients.{AsksOn}
use Rattle.bac_environment.specs.Files.{OfFile}
use Rattle.bac_asking.specs.FileWords.{file_of, with_octets}
use Rattle.bac_asking.specs.Online.{ByClient}
use Rattle.bac_environment.specs.Sockets.{Clocks, Links}
use Rattle.bac_asking.specs.Recording.{PrintsAsk}
use Rattle.bac_asking.specs.declared.asking.Asking.{Asking}

-- octets of a file are there only for a request that reads one
abbrev pub is_printed_by : Style → Request → Bool
is_printed_by style.Numbers r = true
is_printed_by style.Words r = true
is_printed_by style.Octets r = reads_file r

abbrev pub is_request_for : Style → Option Request → Bool
is_request_for style None = false
is_request_for style (Some r) = is_printed_by style r

-- it is read, or there is a fault: the words are no such request, or memory was refused
abbrev pub ReadsAsked : Style → PeerView → (words : List (List ℕ)) → Result code.Question FormFault → Type 0
ReadsAsked style peer words (Ok q) = IsQuestion peer words (question_view q)
ReadsAsked style peer words (Err NoForm) = is_request_for style (request_of words) ≡ false
ReadsAsked style peer words (Err NoMemory) = ⊤

-- a question was asked by the node, or where that had nothing left for it, by the next one; how that ended was printed as is wanted
pub record AsksOnce (IsOn : Links) (asking : Asking) (q : Question) (succeeded : Bool) (before after : Timed) (old new : Option (List ℕ)) : Type 0 where
  pub how : AskEnd
  pub asks : AsksOn IsOn asking q how before after
  pub told : PrintsAsk asking.records asking.output_format no_line q how succeeded old new

-- the question that some words are was asked
pub record Asks (IsOn : Links) (IsClock : Clocks) (asking : Asking) (peer : PeerView) (succeeded : Bool) (words : List (List ℕ)) (old new : Option (List ℕ)) : Type 0 where
  pub question : Question
  pub is : IsQuestion peer words question
  pub asks : ByClient IsOn IsClock asking (AsksOnce IsOn asking question) succeeded old new

-- the words are no request that can be printed so, and nothing was printed
pub record IsNoRequest (asking : Asking) (words : List (List ℕ)) (old new : Option (List ℕ)) : Type 0 where
  pub none : is_request_for asking.output_format.style (request_of words) ≡ false
  pub keeps : Keeps old new

abbrev pub IsAsked : Links → Clocks → Status → Asking → PeerView → (words : List (List ℕ)) → (old new : Option (List ℕ)) → Type 0
IsAsked IsOn IsClock s asking peer words old new =
    ByStatus s (Asks IsOn IsClock asking peer true words old new) (Asks IsOn IsClock asking peer false words old new) (IsNoRequest asking words old new)

-- the same where octets stand in hexadecimal in the place of the last word: those of a file, where they are known
pub record AsksWith (IsOn : Links) (IsClock : Clocks) (asking : Asking) (peer : PeerView) (succeeded : Bool) (words : List (List ℕ))
    (old new : Option (List ℕ)) (content : Option (List ℕ)) : Type 0 where
  pub octets : List ℕ
  pub known : IfSome content (λ file. octets ≡ file)
  pub asks : Asks IsOn IsClock asking peer succeeded (with_octets octets words) old new

abbrev pub IsAskedOf : (IsFile : (path : List ℕ) → (content : Option (List ℕ)) → Type 0) → (file : Option (List ℕ)) → Links → Clocks → Status → Asking
    → PeerView → (words : List (List ℕ)) → (old new : Option (List ℕ)) → Type 0
IsAskedOf IsFile None IsOn IsClock s asking peer words old new = IsAsked IsOn IsClock s asking peer words old new
IsAskedOf IsFile (Some path) IsOn IsClock s asking peer words old new =
    ByStatus s (OfFile IsFile path (AsksWith IsOn IsClock asking peer true words old new)) (OfFile IsFile path (AsksWith IsOn IsClock asking peer false words old new))
    (Keeps old new)

-- where the last word names a file, its octets stand there
abbrev pub IsAskedFrom : (IsFile : (path : List ℕ) → (content : Option (List ℕ)) → Type 0) → Links → Clocks → Status → Asking → PeerView
    → (words : List (List ℕ)) → (old new : Option (List ℕ)) → Type 0
IsAskedFrom IsFile IsOn IsClock s asking peer words old new = IsAskedOf IsFile (file_of words) IsOn IsClock s asking peer words old new
