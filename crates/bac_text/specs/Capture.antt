-- Lines of a capture, `moment from to hex`, and which of them are good.
use Rattle.std.specs.Prelude.{ℕ, ◌+◌, ◌-◌, ◌*◌, ◌^◌, nat_lt, Bool, ◌==◌, ◌&&◌, List, [], ◌∷◌, length, take, drop, if◌then◌else◌}
use Rattle.std.specs.Prelude.{Option, Some, None, Result, Ok, Err}
use Rattle.std.specs.List.{list_all, position}
use Rattle.std.specs.Char.{is_ascii_digit, is_ascii_hexdigit}
use Rattle.hex.specs.Hex.{decode_of}
use Rattle.hex.specs.declared.error.FromHexError.{FromHexError}

infixl 10 ◌>>=◌
abbrev pub ◌>>=◌ : {A B : Type 0} → Option A → (A → Option B) → Option B
None >>= f = None
Some x >>= f = f x

abbrev pub is_space : ℕ → Bool
is_space octet = octet == 32

-- what stands before that place, and after it
abbrev pub separated : List ℕ → Option ℕ → Option (List ℕ × List ℕ)
separated text None = None
separated text (Some place) = Some (take place text, drop (place + 1) text)

-- a word up to the first space, and what is after that space
abbrev pub word_at : List ℕ → Option (List ℕ × List ℕ)
word_at text = separated text (position is_space text)

-- the address of a link: 12 hexadecimal digits
abbrev pub is_link : List ℕ → Bool
is_link text = length text == 12 && list_all is_ascii_hexdigit text

-- the number that decimal digits are, where a number stands before them
abbrev pub number_on : ℕ → List ℕ → ℕ
number_on before [] = before
number_on before (digit ∷ digits) = number_on (10 * before + (digit - 48)) digits

-- decimal digits alone, at least one, whose number has at most 64 bits
abbrev pub is_moment : List ℕ → Bool
is_moment text = list_all is_ascii_digit text && (nat_lt 0 (length text) && nat_lt (number_on 0 text) (2 ^ 64))

abbrev pub moment_at : List ℕ → Option ℕ
moment_at text = if is_moment text then Some (number_on 0 text) else None

-- the moment of a line, and the digits of its datagram: four words separated by single spaces
unfoldable pub parts_at : List ℕ → Option (ℕ × List ℕ)
parts_at line = do
  number ← word_at line
  from ← word_at number.1
  to ← word_at from.1
  if is_link from.0 && is_link to.0 then (do
    moment ← moment_at number.0
    Some (moment, to.1)) else None

abbrev pub octets_or_none : Result (List ℕ) FromHexError → Option (List ℕ)
octets_or_none (Ok octets) = Some octets
octets_or_none (Err e) = None

abbrev pub decoded_at : List ℕ → Option (List ℕ)
decoded_at text = octets_or_none (decode_of text)

-- the moment and the datagram of a line
unfoldable pub capture_at : List ℕ → Option (ℕ × List ℕ)
capture_at line = do
  parts ← parts_at line
  datagram ← decoded_at parts.1
  Some (parts.0, datagram)
