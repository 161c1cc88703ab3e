-- The order of the values of one kind that are numbers: Unsigned, Signed, Real and Enumerated (clauses 20.2.4 to 20.2.6 and 20.2.11).
use Rattle.std.specs.Prelude.{ℕ, ◌+◌, ◌-◌, ◌^◌, ℤ, pos, negsuc, Bool, false, ◌==◌, ◌&&◌, nat_lt, nat_le, List, [], ◌∷◌, length}
use Rattle.std.specs.Prelude.{Option, Some, None, Result, Ok, Err, if◌then◌else◌}
use Rattle.std.specs.Option.{option_map}
use Rattle.bac_value.specs.declared.fault.FaultKind.{FaultKind}
use Rattle.bac_value.specs.declared.tag.Class.{Class}
use Rattle.bac_value.specs.declared.tag.Class.TheVariants.{Application, Context}
use Rattle.bac_value.specs.Element.{Part}
use Rattle.bac_value.specs.Number.{number_in}
use Rattle.bac_value.specs.Reading.{element_at, number_at, signed_at}
use Rattle.bac_store.specs.Limits.{UNSIGNED, SIGNED, REAL, ENUMERATED}

-- ---- a Real by its bits (IEEE 754): the sign, then exponent and fraction

abbrev pub SIGN : ℕ
SIGN = 0x8000_0000

-- the greatest magnitude that is a number, infinity; above it there is only NaN
abbrev pub INFINITY : ℕ
INFINITY = 0x7F80_0000

-- the bits without the sign
abbrev pub magnitude : ℕ → ℕ
magnitude bits = if nat_lt bits SIGN then bits else bits - SIGN

-- ascending with the Real, and equal for 0.0 and -0.0; a NaN has none
abbrev pub real_place : ℕ → Option ℕ
real_place bits =
    if nat_lt INFINITY (magnitude bits) then None else
    (if nat_lt bits SIGN then Some (SIGN + magnitude bits) else Some (SIGN - magnitude bits))

abbrev pub real_in : List ℕ → Option ℕ
real_in (a ∷ b ∷ c ∷ d ∷ []) = real_place (number_in (a ∷ b ∷ c ∷ d ∷ []))
real_in _ = None

-- ---- all kinds

-- ascending with the number
abbrev pub signed_place : ℤ → ℕ
signed_place (pos n) = 2 ^ 63 + n
signed_place (negsuc n) = 2 ^ 63 - 1 - n

abbrev pub number_read : Result (ℕ × List ℕ) FaultKind → Option ℕ
number_read (Ok r) = Some r.0
number_read (Err e) = None

abbrev pub signed_read : Result (ℤ × List ℕ) FaultKind → Option ℕ
signed_read (Ok r) = Some (signed_place r.0)
signed_read (Err e) = None

-- the place of a value with these contents among the values of its kind; None for other kinds
abbrev pub place_in : ℕ → List ℕ → Option ℕ
place_in k xs =
    if k == UNSIGNED then number_read (number_at UNSIGNED (length xs) xs) else
    (if k == SIGNED then signed_read (signed_at (length xs) xs) else
    (if k == REAL then real_in xs else
    (if k == ENUMERATED then number_read (number_at ENUMERATED (length xs) xs) else None)))

abbrev pub place_of_class : Class → ℕ → List ℕ → Option ℕ
place_of_class Application k xs = place_in k xs
place_of_class Context k xs = None

-- the kind of a value, and its place among the values of this kind
abbrev pub Rank : Type 0
Rank = ℕ × ℕ

abbrev pub with_kind : ℕ → ℕ → Rank
with_kind kind place = (kind, place)

abbrev pub rank_before : Part → List ℕ → Option Rank
rank_before p [] = option_map (with_kind p.mark.number) (place_of_class p.mark.class p.mark.number p.contents)
rank_before p (x ∷ xs) = None

abbrev pub rank_read : Result (Part × List ℕ) FaultKind → Option Rank
rank_read (Ok r) = rank_before r.0 r.1
rank_read (Err e) = None

-- the rank of octets that encode one number; None for all others, and for a NaN
abbrev pub rank_of : List ℕ → Option Rank
rank_of values = rank_read (element_at values)

-- the place of a number; 0 for other values
abbrev pub place_or_zero : Option Rank → ℕ
place_or_zero None = 0
place_or_zero (Some r) = r.1

abbrev pub is_rank_at_most : Option Rank → Option Rank → Bool
is_rank_at_most (Some a) (Some b) = (a.0 == b.0) && nat_le a.1 b.1
is_rank_at_most (Some a) None = false
is_rank_at_most None b = false

-- both encode numbers of the same kind, and the second is not below the first
abbrev pub is_at_most : List ℕ → List ℕ → Bool
is_at_most a b = is_rank_at_most (rank_of a) (rank_of b)
