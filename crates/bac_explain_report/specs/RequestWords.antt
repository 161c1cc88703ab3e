-- Requests in words.
use Rattle.std.specs.Prelude.{◌≡◌, ℕ, List, [], Option, Some, None, Result, Ok, Err}
use Rattle.bac_apdu.specs.Apdu.{Segment, Apdu, ConfirmedRequest}
use Rattle.bac_apdu.specs.Reading.{apdu_at}
use Rattle.bac_apdu.specs.declared.fault.ApduFault.{ApduFault}
use Rattle.bac_service.specs.Services.{request_at}
use Rattle.bac_service.specs.Values.{Request}
use Rattle.bac_service_text.specs.Dispatch.{AreRequestWords}
use Rattle.bac_explain_report.specs.ServiceWords.{segments_words, service_words}

-- service data that are no request of the four services go by the name of the service
abbrev pub AreFoundWords : (choice : ℕ) → Result Request ℕ → List ℕ → Type 0
AreFoundWords choice (Ok r) words = AreRequestWords r words
AreFoundWords choice (Err reason) words = words ≡ service_words choice

-- so does a segment
abbrev pub ArePartWords : Option Segment → (choice : ℕ) → (service words : List ℕ) → Type 0
ArePartWords None choice service words = AreFoundWords choice (request_at choice service) words
ArePartWords (Some s) choice service words = words ≡ segments_words choice

-- an APDU that is not a request has no words
abbrev pub AreAskingWords : Apdu → List ℕ → Type 0
AreAskingWords (ConfirmedRequest limits invoke_id segment choice service) words = ArePartWords segment choice service words
AreAskingWords _ words = words ≡ []

abbrev pub AreReadWords : Result Apdu ApduFault → List ℕ → Type 0
AreReadWords (Ok a) words = AreAskingWords a words
AreReadWords (Err fault) words = words ≡ []

abbrev pub AreOctetsWords : List ℕ → List ℕ → Type 0
AreOctetsWords octets words = AreReadWords (apdu_at octets) words
