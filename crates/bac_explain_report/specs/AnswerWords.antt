-- Replies in words.
use Rattle.std.specs.Prelude.{◌≡◌, ℕ, List, [], codes, Option, Some, None, Result, Ok, Err}
use Rattle.bac_apdu.specs.Apdu.{Segment, Apdu, SimpleAck, ComplexAck, Error, Reject, Abort}
use Rattle.bac_apdu.specs.Reading.{apdu_at}
use Rattle.bac_apdu.specs.declared.fault.ApduFault.{ApduFault}
use Rattle.bac_service_text.specs.Reasons.{error_words}
use Rattle.bac_service.specs.Services.{complex_at}
use Rattle.bac_service.specs.Values.{Complex}
use Rattle.bac_service_text.specs.ServiceData.{AreReplyDataWords}
use Rattle.bac_value.specs.declared.fault.Fault.{Fault}
use Rattle.bac_value_text.specs.Reasons.{abort_text, reject_text}
use Rattle.bac_explain_report.specs.ServiceWords.{segments_words, service_words}

-- service data that answer nothing of the four services go by the name of the service
abbrev pub AreFoundWords : (choice : ℕ) → (service : List ℕ) → Result Complex Fault → (words : List ℕ) → Type 0
AreFoundWords choice service (Ok c) words = AreReplyDataWords choice service words
AreFoundWords choice service (Err fault) words = words ≡ service_words choice

-- so does a segment
abbrev pub ArePartWords : Option Segment → (choice : ℕ) → (service words : List ℕ) → Type 0
ArePartWords None choice service words = AreFoundWords choice service (complex_at choice service) words
ArePartWords (Some s) choice service words = words ≡ segments_words choice

-- an APDU that is not a reply has no words
abbrev pub AreAnswerWords : Apdu → List ℕ → Type 0
AreAnswerWords (SimpleAck invoke_id choice) words = words ≡ codes "acknowledged"
AreAnswerWords (ComplexAck invoke_id segment choice service) words = ArePartWords segment choice service words
AreAnswerWords (Error invoke_id choice class code) words = words ≡ error_words class code
AreAnswerWords (Reject invoke_id reason) words = words ≡ reject_text reason
AreAnswerWords (Abort server invoke_id reason) words = words ≡ abort_text reason
AreAnswerWords _ words = words ≡ []

abbrev pub AreReadWords : Result Apdu ApduFault → List ℕ → Type 0
AreReadWords (Ok a) words = AreAnswerWords a words
AreReadWords (Err fault) words = words ≡ []

abbrev pub AreOctetsWords : List ℕ → List ℕ → Type 0
AreOctetsWords octets words = AreReadWords (apdu_at octets) words
