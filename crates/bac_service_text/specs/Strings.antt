-- Octet strings that stand one after the other, in hexadecimal.
use Rattle.std.specs.Prelude.{◌≡◌, ℕ, List, [], ◌∷◌, ◌++◌, codes}
use Rattle.hex.specs.Hex.{encode_upper}
use Rattle.bac_service.specs.Members.{◌⨾◌, ApplicationString}

-- octet strings in hexadecimal, each after a comma
abbrev pub more_strings_text : List (List ℕ) → List ℕ
more_strings_text [] = []
more_strings_text (string ∷ strings) = (codes "," ++ encode_upper string) ++ more_strings_text strings

-- octet strings in hexadecimal, with commas between them
abbrev pub strings_text : List (List ℕ) → List ℕ
strings_text [] = []
strings_text (string ∷ strings) = encode_upper string ++ more_strings_text strings

-- these octets are the spellings of these octet strings, each with its application tag, one after the other (clause 20.2.8)
abbrev pub AreTheStrings : List (List ℕ) → List ℕ → Type 0
AreTheStrings [] run = run ≡ []
AreTheStrings (string ∷ strings) run = (ApplicationString string ⨾ AreTheStrings strings) run
