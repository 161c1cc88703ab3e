-- The bits of a text of digits 0 and 1, eight in an octet, the first in bit 7 (clause 20.2.10).
use Rattle.std.specs.Prelude.{ℕ, ◌+◌, ◌-◌, ◌/◌, ◌^◌, nat_lt, ◌==◌, ◌&&◌, List, [], ◌∷◌, ◌++◌, length, if◌then◌else◌, Result, Ok, Err}
use Rattle.bac_value.specs.Limits.{bits_fit}
use Rattle.bac_value.specs.Steps.{◌>>=◌}
use Rattle.bac_value.specs.Value.{Datum, bits}
use Rattle.toml.specs.Data.{Data}
use Rattle.bac_objects.specs.Reading.{fitting, other, text_of}
use Rattle.bac_objects.specs.declared.problem.Problem.{Problem}
use Rattle.bac_objects.specs.declared.problem.Wanted.TheVariants as wanted

-- whole octets, and a last octet with room for more bits, of which the next has this weight
pub record Packing : Type 0 where
  pub octets : List ℕ
  pub left : ℕ
  pub weight : ℕ
  pub octet : ℕ

abbrev pub fresh : List ℕ → Packing
fresh octets = record { octets = octets; left = 8; weight = 128; octet = 0 }

abbrev pub after_bit : Packing → (octet : ℕ) → Packing
after_bit p octet =
    if p.left == 1 then fresh (p.octets ++ octet ∷ [])
    else record { octets = p.octets; left = p.left - 1; weight = p.weight / 2; octet = octet }

abbrev pub with_digit : ℕ → Packing → Result Packing Problem
with_digit c p =
    if c == 48 then Ok (after_bit p p.octet) else (if c == 49 then Ok (after_bit p (p.octet + p.weight)) else Err (other wanted.Bits))

abbrev pub packed : Packing → List ℕ → Result Packing Problem
packed p [] = Ok p
packed p (c ∷ cs) = with_digit c p >>= (λ q. packed q cs)

abbrev pub string_of : (unused : ℕ) → List ℕ → Result Datum Problem
string_of unused xs = fitting (nat_lt (length xs + 1) (2 ^ 32) && bits_fit unused xs) (bits unused xs)

-- the bits that are missing in the last octet are unused
abbrev pub whole : Packing → Result Datum Problem
whole p = if p.left == 8 then string_of 0 p.octets else string_of p.left (p.octets ++ p.octet ∷ [])

unfoldable pub bits_of : Data → Result Datum Problem
bits_of d = do
  text ← text_of wanted.Bits d
  p ← packed (fresh []) text
  whole p
