-- The service data of APDUs in words.
use Rattle.std.specs.Prelude.{◌≡◌, ℕ, List, ◌++◌, codes, decimal, Result, Ok, Err}
use Rattle.bac_service.specs.Services.{complex_at, request_at}
use Rattle.bac_service.specs.Values.{Complex, Request}
use Rattle.bac_value.specs.declared.fault.Fault.{Fault}
use Rattle.bac_service_text.specs.Dispatch.{AreComplexWords, AreRequestWords, request_label}

-- a service by its choice alone
abbrev pub service_text : ℕ → List ℕ
service_text choice = codes "service " ++ decimal choice

abbrev pub segments_text : ℕ → List ℕ
segments_text choice = codes "service " ++ (decimal choice ++ codes " in segments")

-- service data that are no request of the four services go by their choice
abbrev pub AreFoundRequestWords : ℕ → Result Request ℕ → List ℕ → Type 0
AreFoundRequestWords choice (Ok r) words = AreRequestWords r words
AreFoundRequestWords choice (Err reason) words = words ≡ service_text choice

abbrev pub AreRequestDataWords : (choice : ℕ) → (service words : List ℕ) → Type 0
AreRequestDataWords choice service words = AreFoundRequestWords choice (request_at choice service) words

-- in short
abbrev pub found_request_label : Result Request ℕ → List ℕ
found_request_label (Ok r) = request_label r
found_request_label (Err reason) = codes "confirmed-request"

-- service data that are no ComplexACK of the services go by their choice
abbrev pub AreFoundReplyWords : ℕ → Result Complex Fault → List ℕ → Type 0
AreFoundReplyWords choice (Ok c) words = AreComplexWords c words
AreFoundReplyWords choice (Err fault) words = words ≡ service_text choice

abbrev pub AreReplyDataWords : (choice : ℕ) → (service words : List ℕ) → Type 0
AreReplyDataWords choice service words = AreFoundReplyWords choice (complex_at choice service) words
