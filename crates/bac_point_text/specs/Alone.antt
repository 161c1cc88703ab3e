-- The text of a value alone, with no word for its kind.
use Rattle.std.specs.Prelude.{◌≡◌, ℕ, ◌+◌, ◌-◌, ◌^◌, nat_lt, Bool, true, false, ◌==◌, ◌||◌, if◌then◌else◌, List, [], ◌∷◌, ◌++◌, codes, Option, Some, None, min}
use Rattle.std.specs.List.{flat_map}
use Rattle.hex.specs.Hex.{encode_upper}
use Rattle.percent_encoding.specs.Percent.{percent_encode_byte}
use Rattle.bac_value.specs.Value.{Datum, null, real, double, octets, characters, bits, enumerated}
use Rattle.bac_value_text.specs.Numbers.{◌>>=◌, parts_at}
use Rattle.bac_value_text.specs.Texts.{named_or_number, is_real_number, is_double_number, is_text, bits_text, IsBody, IsTextOf}
use Rattle.bac_point_text.specs.Enumerations.{Names, name_of}

-- ---- numbers that have names

abbrev pub name_among : Option Names → ℕ → Option (List ℕ)
name_among names number = names >>= (λ e. name_of e number)

-- the name of a number, or its digits
abbrev pub name_or_number : Option Names → ℕ → List ℕ
name_or_number names number = named_or_number (name_among names number) number

-- ---- bits that have names, a digit for each

-- behind a comma the name of a bit that is set
abbrev pub bit_text : Names → (place digit : ℕ) → List ℕ
bit_text names place digit = if digit == 49 then 44 ∷ name_or_number (Some names) place else []

-- places are counted in 32 bits
abbrev pub next_place : ℕ → ℕ
next_place place = min (place + 1) (2 ^ 32 - 1)

-- the names of all bits that are set, from a place on
abbrev pub set_from : Names → (place : ℕ) → (digits : List ℕ) → List ℕ
set_from names place [] = []
set_from names place (digit ∷ digits) = bit_text names place digit ++ set_from names (next_place place) digits

abbrev pub behind_comma : List ℕ → List ℕ
behind_comma [] = codes "none"
behind_comma (comma ∷ text) = text

-- the names of the bits that are set, separated by commas
abbrev pub set_names : Names → (digits : List ℕ) → List ℕ
set_names names digits = behind_comma (set_from names 0 digits)

abbrev pub bits_alone : Option Names → (digits : List ℕ) → List ℕ
bits_alone None digits = digits
bits_alone (Some names) digits = set_names names digits

-- ---- values

-- neither NaN nor characters that are not UTF-8
abbrev pub is_plain : Datum → Bool
is_plain (real a) = is_real_number a
is_plain (double a) = is_double_number a
is_plain (characters set a) = is_text set a
is_plain _ = true

-- what stands behind the first colon, or all
abbrev pub behind_parts : (text : List ℕ) → Option (List ℕ × List ℕ) → List ℕ
behind_parts text None = text
behind_parts text (Some parts) = parts.1

abbrev pub behind_word : List ℕ → List ℕ
behind_word text = behind_parts text (parts_at 58 text)

-- the text without the word for the kind
abbrev pub IsBehindWord : Datum → List ℕ → Type 0
IsBehindWord null text = text ≡ codes "null"
IsBehindWord d text = IsBody d text

-- control characters are escaped, so that a text stays on one line
abbrev pub line_octet : ℕ → List ℕ
line_octet octet = if nat_lt octet 32 || octet == 127 then percent_encode_byte octet else octet ∷ []

abbrev pub line_text : List ℕ → List ℕ
line_text text = flat_map line_octet text

-- that text, but of characters themselves only control characters are escaped
abbrev pub IsPlainText : Datum → List ℕ → Type 0
IsPlainText (characters set a) text = text ≡ line_text a
IsPlainText d text = IsBehindWord d text

-- that text, or where there is none the text with the word
abbrev pub IsPlainOr : (plain : Bool) → Datum → List ℕ → Type 0
IsPlainOr true d text = IsPlainText d text
IsPlainOr false d text = IsTextOf 58 d text

-- the text is a printed text of the value alone
abbrev pub IsAlone : Option Names → Datum → List ℕ → Type 0
IsAlone names (octets a) text = text ≡ codes "hex:" ++ encode_upper a
IsAlone names (bits unused a) text = text ≡ bits_alone names (bits_text unused a)
IsAlone names (enumerated n) text = text ≡ name_or_number names n
IsAlone names d text = IsPlainOr (is_plain d) d text
