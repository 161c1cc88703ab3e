-- WriteProperty as text (clause 15.9).
use Rattle.std.specs.Prelude.{◌≡◌, ℕ, nat_lt, List, [], ◌∷◌, ◌++◌, codes, decimal, if◌then◌else◌, Option, Some, None, Result, Ok, Err}
use Rattle.std.specs.Option.{option_map, option_or}
use Rattle.std.specs.Str.{bytes_eq}
use Rattle.bac_service.specs.Values.{Reference, Request}
use Rattle.bac_service.specs.Values.Request.{WriteProperty}
use Rattle.bac_value.specs.Reading.{data_of}
use Rattle.bac_value.specs.Value.{ObjectId}
use Rattle.bac_value.specs.Writing.{value_spelling}
use Rattle.bac_value.specs.declared.fault.FaultKind.{FaultKind}
use Rattle.bac_value_text.specs.DataTexts.{IsDataText}
use Rattle.bac_value_text.specs.Numbers.{◌>>=◌, number_up_to, octets_of}
use Rattle.bac_value_text.specs.Reading.{value_in}
use Rattle.bac_service_text.specs.References.{reference_of, reference_text}

-- ---- the request, printed

-- without its values
abbrev pub write_label : Reference → List ℕ
write_label r = codes "write " ++ reference_text r

abbrev pub priority_text : Option ℕ → List ℕ
priority_text None = []
priority_text (Some priority) = codes " priority " ++ decimal priority

-- the values stand in between
pub record AreWriteWords (r : Reference) (values : List ℕ) (priority : Option ℕ) (words : List ℕ) : Type 0 where
  pub text : List ℕ
  pub text_of : IsDataText values text
  pub is : words ≡ (write_label r ++ codes " ") ++ (text ++ priority_text priority)

-- ---- the request, read: write OBJECT PROPERTY VALUE .. [priority N]

-- the octets, where they spell data as a whole (clause 20.2)
abbrev pub whole_data : List ℕ → Result (List ℕ) FaultKind → Option (List ℕ)
whole_data octets (Ok []) = Some octets
whole_data octets (Ok (o ∷ rest)) = None
whole_data octets (Err e) = None

abbrev pub data_in : List ℕ → Option (List ℕ)
data_in octets = whole_data octets (data_of octets)

-- the octets that a word of values is: the spelling of a value by its kind, or octets in hexadecimal
abbrev pub values_in_word : List ℕ → Option (List ℕ)
values_in_word word = option_or (option_map value_spelling (value_in 58 word)) (octets_of word)

-- a priority for writing, 1 to 16 (clause 19.2)
abbrev pub from_one : ℕ → Option ℕ
from_one number = if nat_lt 0 number then Some number else None

abbrev pub priority_of : List ℕ → Option ℕ
priority_of word = number_up_to 16 word >>= from_one

-- the word of a priority, where only it and the word before it are left
abbrev pub priority_word : List (List ℕ) → Option (List ℕ)
priority_word (word ∷ number ∷ []) = if bytes_eq word (codes "priority") then Some number else None
priority_word words = None

-- octets of values, and the priority that stands behind them
abbrev pub Written : Type 0
Written = List ℕ × Option ℕ

abbrev pub with_priority : List ℕ → ℕ → Option Written
with_priority octets number = Some (octets, Some number)

abbrev pub prioritized : List ℕ → (priority : List ℕ) → Option Written
prioritized octets word = priority_of word >>= with_priority octets

-- a priority ends the words
abbrev pub ended : List ℕ → (priority : Option (List ℕ)) → (otherwise : Option Written) → Option Written
ended octets None otherwise = otherwise
ended octets (Some number) otherwise = prioritized octets number

-- the octets of values in words, where octets stand before them, and the priority behind them
abbrev pub written_on : List ℕ → List (List ℕ) → Option Written
written_on octets [] = Some (octets, None)
written_on octets (word ∷ words) =
    ended octets (priority_word (word ∷ words)) (values_in_word word >>= (λ more. written_on (octets ++ more) words))

unfoldable pub write_of : ObjectId → (property first : List ℕ) → (words : List (List ℕ)) → Option Request
write_of object property first words = do
  reference ← reference_of object property
  octets ← values_in_word first
  written ← written_on octets words
  octets ← data_in written.0
  Some (WriteProperty reference octets written.1)
