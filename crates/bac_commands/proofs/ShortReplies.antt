-- Which replies are short, and that their APDUs are.
use Rattle.std.proofs.Common.{◌≡◌, ℕ, ℤ, ◌+◌, ◌<◌, ◌≤◌, Bool, true, false, List, length, None, if◌then◌else◌, nat_lt, refl, inl, inr, arith}
use Rattle.std.proofs.lemmas.Bool.{lt-ltb, le-ltb, cases_lt}
use Rattle.bac_value.specs.Number.{width_of, half_width_of, distance}
use Rattle.bac_service.specs.Values.{Reference}
use Rattle.bac_service.specs.Values.Complex.{FileRead, StreamWritten, PropertyRead}
use Rattle.bac_service.specs.Lengths.{member_length, unsigned_length, signed_length, index_length}
use Rattle.bac_service.specs.Spellings.{complex_spelling}
use Rattle.bac_service.proofs.LengthLaws.{length_complex}

-- a width is one of eight
steps : (a b c d e f g : Bool)
    → (if a then 1 else (if b then 2 else (if c then 3 else (if d then 4 else (if e then 5 else (if f then 6 else (if g then 7 else 8))))))) ≤ 8
steps true b c d e f g = omega arith
steps false true c d e f g = omega arith
steps false false true d e f g = omega arith
steps false false false true e f g = omega arith
steps false false false false true f g = omega arith
steps false false false false false true g = omega arith
steps false false false false false false true = omega arith
steps false false false false false false false = omega arith

pub width_few : (n : ℕ) → width_of n ≤ 8
width_few n =
    steps (nat_lt n 0x100) (nat_lt n 0x1_0000) (nat_lt n 0x100_0000) (nat_lt n 0x1_0000_0000) (nat_lt n 0x100_0000_0000) (nat_lt n 0x1_0000_0000_0000)
    (nat_lt n 0x100_0000_0000_0000)

half_width_few : (n : ℕ) → half_width_of n ≤ 8
half_width_few n =
    steps (nat_lt n 0x80) (nat_lt n 0x8000) (nat_lt n 0x80_0000) (nat_lt n 0x8000_0000) (nat_lt n 0x80_0000_0000) (nat_lt n 0x8000_0000_0000)
    (nat_lt n 0x80_0000_0000_0000)

member_short : (k : ℕ) → k < 254 → member_length k ≤ k + 2
member_short k few =
    elim (cases_lt k 5) [
      | inl a ↦ rw (lt-ltb k 5 a) (omega arith)
      | inr b ↦ rw (le-ltb k 5 b, lt-ltb k 254 few) (omega arith)
    ]

number_short : (n : ℕ) → unsigned_length n ≤ 10
number_short n = let few = width_few n in omega (arith, few, member_short (width_of n) (omega (arith, few)))

integer_short : (z : ℤ) → signed_length z ≤ 10
integer_short z = let few = half_width_few (distance z) in omega (arith, few, member_short (half_width_of (distance z)) (omega (arith, few)))

-- ---- answers

pub read_short : (r : Reference) (values : List ℕ) → r.index ≡ None → length values ≤ 30 → length (complex_spelling (PropertyRead r values)) ≤ 47
read_short r values none few =
    let index : index_length r.index ≡ 0 = rw none refl in
    omega (arith, length_complex (PropertyRead r values), number_short r.property, index, few)

pub file_short : (end_of_file : Bool) (start : ℤ) (octets : List ℕ) → length octets ≤ 30 → length (complex_spelling (FileRead end_of_file start octets)) ≤ 47
file_short end_of_file start octets few =
    omega (arith, length_complex (FileRead end_of_file start octets), integer_short start, member_short (length octets) (omega (arith, few)), few)

pub written_short : (start : ℤ) → length (complex_spelling (StreamWritten start)) ≤ 47
written_short start = omega (arith, length_complex (StreamWritten start), integer_short start)
