-- Numbers, octets and objects as words.
use Rattle.std.specs.Prelude.{ℕ, ℤ, pos, neg_ℤ, ◌+◌, ◌-◌, ◌*◌, ◌^◌, nat_le, nat_lt, Bool, false, ◌==◌, ◌&&◌, ◌||◌, List, [], ◌∷◌, length, take, drop, codes, if◌then◌else◌}
use Rattle.std.specs.Prelude.{Option, Some, None, Result, Ok, Err}
use Rattle.std.specs.List.{list_all, position}
use Rattle.std.specs.Char.{is_ascii_digit}
use Rattle.std.specs.Str.{bytes_eq}
use Rattle.hex.specs.Hex.{decode_of, decode_sized}
use Rattle.hex.specs.declared.error.FromHexError.{FromHexError}
use Rattle.bac_value_text.specs.declared.separator.Separator.{Separator}
use Rattle.bac_value_text.specs.declared.separator.Separator.TheVariants.{Colon, Space}

infixl 10 ◌>>=◌
abbrev pub ◌>>=◌ : {A B : Type 0} → Option A → (A → Option B) → Option B
None >>= f = None
Some x >>= f = f x

-- ---- numbers

-- the number of decimal digits that follow a number
abbrev pub number_on : ℕ → List ℕ → ℕ
number_on before [] = before
number_on before (digit ∷ digits) = number_on (10 * before + (digit - 48)) digits

-- one or more decimal digits and nothing else, whose number has at most 64 bits
abbrev pub is_number : List ℕ → Bool
is_number word = list_all is_ascii_digit word && (nat_lt 0 (length word) && nat_lt (number_on 0 word) (2 ^ 64))

abbrev pub number_of : List ℕ → Option ℕ
number_of word = if is_number word then Some (number_on 0 word) else None

abbrev pub at_most : (most : ℕ) → ℕ → Option ℕ
at_most most number = if nat_le number most then Some number else None

abbrev pub number_up_to : (most : ℕ) → List ℕ → Option ℕ
number_up_to most word = number_of word >>= at_most most

abbrev pub is_minus : List ℕ → Bool
is_minus [] = false
is_minus (octet ∷ octets) = octet == 45

-- a number with an optional minus before it, of 64 bits with its sign
unfoldable pub negative_of : (digits : List ℕ) → Option ℤ
negative_of digits = do
  number ← number_up_to (2 ^ 63) digits
  Some (neg_ℤ (pos number))

unfoldable pub positive_of : (digits : List ℕ) → Option ℤ
positive_of digits = do
  number ← number_up_to (2 ^ 63 - 1) digits
  Some (pos number)

abbrev pub signed_of : List ℕ → Option ℤ
signed_of word = if is_minus word then negative_of (drop 1 word) else positive_of word

-- the word of an infinite float
abbrev pub is_infinity : List ℕ → Bool
is_infinity word = bytes_eq word (codes "inf") || bytes_eq word (codes "-inf")

-- ---- octets

abbrev pub decoded : Result (List ℕ) FromHexError → Option (List ℕ)
decoded (Ok octets) = Some octets
decoded (Err e) = None

-- octets in hexadecimal, in upper or lower case; an empty word has no octets
abbrev pub octets_of : List ℕ → Option (List ℕ)
octets_of word = decoded (decode_of word)

-- this many octets in hexadecimal
abbrev pub array_of : (count : ℕ) → List ℕ → Option (List ℕ)
array_of count word = decoded (decode_sized word count)

-- ---- parts

-- the separator between the name of a kind and a value: a colon or a space
abbrev pub separator_octet : Separator → ℕ
separator_octet Colon = 58
separator_octet Space = 32

abbrev pub is_octet : (wanted : ℕ) → ℕ → Bool
is_octet wanted octet = octet == wanted

-- the parts before and after this place
abbrev pub separated : List ℕ → Option ℕ → Option (List ℕ × List ℕ)
separated word None = None
separated word (Some place) = Some (take place word, drop (place + 1) word)

-- the parts before and after the first such octet
abbrev pub parts_at : ℕ → List ℕ → Option (List ℕ × List ℕ)
parts_at octet word = separated word (position (is_octet octet) word)
