-- The function that spells a value agrees with the relation.
use Rattle.std.proofs.Common.{ℕ, ◌<◌, ◌≤◌, ◌^◌, length, refl, arith}
use Rattle.bac_value.specs.Number.{unsigned_octets, width_of, distance}
use Rattle.bac_value.specs.Value.{Datum, null, boolean, unsigned, signed, real, double, octets, characters, bits, enumerated, date, time}
use Rattle.bac_value.specs.Value.{object, IsContents, IsNumber, IsValue, SpellsValue}
use Rattle.bac_value.specs.Writing.{contents_of, value_spelling}
use Rattle.bac_value.proofs.Numbers.{unsigned_spelled, length-unsigned, width_is, width-le}
use Rattle.bac_value.proofs.Signs.{signed_spelled, length-signed}
use Rattle.bac_value.proofs.Numbers.{half_width_is}

pub number_contents : (most n : ℕ) → n < 2 ^ 64 → width_of n ≤ most → IsNumber most n (unsigned_octets n)
number_contents most n lt few = record { spelled = unsigned_spelled n lt; few = rw (length-unsigned n) few }

pub IsContents-of : (d : Datum) → IsValue d → IsContents d (contents_of d)
IsContents-of null h = refl
IsContents-of (boolean b) h = refl
IsContents-of (unsigned n) h = number_contents 8 n h (width_is n h).most
IsContents-of (signed z) h = record { spelled = signed_spelled z h; few = rw (length-signed z) (half_width_is (distance z) h).most }
IsContents-of (real a) h = record { is = refl; sized = h }
IsContents-of (double a) h = record { is = refl; sized = h }
IsContents-of (octets a) h = refl
IsContents-of (characters set a) h = refl
IsContents-of (bits unused a) h = record { is = refl; fits = h.0 }
IsContents-of (enumerated n) h = number_contents 4 n (omega arith) (width-le n 4 (omega arith) (omega arith) (omega (arith, h)))
IsContents-of (date a) h = record { is = refl; sized = h }
IsContents-of (time a) h = record { is = refl; sized = h }
IsContents-of (object i) h = record { kind_fits = h.0; instance_fits = h.1; is = refl }

length-contents : (d : Datum) → IsValue d → length (contents_of d) < 2 ^ 32
length-contents null h = omega arith
length-contents (boolean b) h = omega arith
length-contents (unsigned n) h = rw (length-unsigned n) (omega (arith, (width_is n h).most))
length-contents (signed z) h = rw (length-signed z) (omega (arith, (half_width_is (distance z) h).most))
length-contents (real a) h = omega (arith, h)
length-contents (double a) h = omega (arith, h)
length-contents (octets a) h = h
length-contents (characters set a) h = omega (arith, h)
length-contents (bits unused a) h = omega (arith, h.1)
length-contents (enumerated n) h = rw (length-unsigned n) (let few = width-le n 4 (omega arith) (omega arith) (omega (arith, h)) in omega (arith, few))
length-contents (date a) h = omega (arith, h)
length-contents (time a) h = omega (arith, h)
length-contents (object i) h = omega arith

pub value_spelled : (d : Datum) → IsValue d → SpellsValue d (value_spelling d)
value_spelled d h = record { contents = contents_of d; are = IsContents-of d h; fits = length-contents d h; is = refl }
