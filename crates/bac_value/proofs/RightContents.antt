-- Contents that the reader accepts are exactly the contents of values of that kind.
use Rattle.std.proofs.Common.{◌≡◌, ℕ, zero, suc, ◌+◌, ◌*◌, ◌/◌, ◌%◌, ◌^◌, ◌<◌, ◌≤◌, Bool, true, false, cond, ltb, eqb, List, [], ◌∷◌}
use Rattle.std.proofs.Common.{length, get_or, Some, None, refl, sym, ap, ◌∙◌, arith, IsTrue, ◌&&◌}
use Rattle.std.specs.Int.{w32, to_be_bytes, from_be_bytes}
use Rattle.std.proofs.lemmas.Bool.{ltb-true, lt-ltb, eqb-true, eq-eqb, and_parts, and_from}
use Rattle.std.proofs.lemmas.Bool.Decides.{nat_tests}
use Rattle.bac_value.specs.declared.fault.FaultKind.{FaultKind}
use Rattle.bac_value.specs.declared.fault.FaultKind.TheVariants.{NotShortest, ReservedBits}
use Rattle.bac_value.specs.Octets.{IsBytes}
use Rattle.bac_value.specs.Limits.{bits_fit}
use Rattle.bac_value.specs.Number.{number_in, signed_in}
use Rattle.bac_value.specs.Value.{Datum, null, boolean, unsigned, signed, real, double, octets, characters, bits, enumerated, date, time}
use Rattle.bac_value.specs.Value.{object, ObjectId, kind_number, IsContents, IsNumber, IsInteger, IsRaw, IsObject}
use Rattle.bac_value.specs.Element.{IsOfKind}
use Rattle.bac_value.specs.Meaning.{datum_in}
use Rattle.bac_value.specs.Reading.{length_in, flaw, is_longer_unsigned, is_longer_signed}
use Rattle.bac_value.proofs.Tags.{wide32}

-- ---- tests

empty : (xs : List ℕ) → length xs ≡ 0 → xs ≡ []
empty [] e = refl
empty (x ∷ xs) e = absurd (omega arith)

-- a test that returns a fault if it holds
pub no_fault : (b : Bool) (e : FaultKind) → cond b (Some e) None ≡ None → b ≡ false
no_fault true e h = absurd cc
no_fault false e h = refl

fault_unless : (b : Bool) (e : FaultKind) → cond b None (Some e) ≡ None → b ≡ true
fault_unless true e h = refl
fault_unless false e h = absurd cc

pub between : (low high k : ℕ) → IsTrue (ltb low k && ltb k high) → (low < k) × (k < high)
between low high k h = let p = and_parts (ltb low k) (ltb k high) h in (ltb-true _ _ p.0, ltb-true _ _ p.1)

pub between_from : (low high k : ℕ) → low < k → k < high → ltb low k && ltb k high ≡ true
between_from low high k p q = and_from (ltb low k) (ltb k high) (lt-ltb low k p) (lt-ltb k high q)

-- ---- accepted contents are those of a value

not_longer : (xs : List ℕ) → is_longer_unsigned xs ≡ false → 1 < length xs → 0 < get_or xs 0 0
not_longer xs e more = grind (arith, nat_tests)

pub unsigned_of : (most : ℕ) (xs : List ℕ) → IsBytes xs → 0 < length xs → length xs ≤ most → is_longer_unsigned xs ≡ false → IsNumber most (number_in xs) xs
unsigned_of most xs fits some few e = record { spelled = record { octets = fits; sum = refl; some = some; shortest = not_longer xs e }; few = few }

not_longer_zeros : (xs : List ℕ) → is_longer_signed xs ≡ false → 1 < length xs → get_or xs 0 0 ≡ 0 → 128 ≤ get_or xs 1 0
not_longer_zeros xs e more z = grind (arith, nat_tests)

not_longer_ones : (xs : List ℕ) → is_longer_signed xs ≡ false → 1 < length xs → get_or xs 0 0 ≡ 255 → get_or xs 1 0 < 128
not_longer_ones xs e more z = grind (arith, nat_tests)

pub signed_of : (xs : List ℕ) → IsBytes xs → 0 < length xs → length xs ≤ 8 → is_longer_signed xs ≡ false → IsInteger 8 (signed_in xs) xs
signed_of xs fits some few e = record {
  spelled = record
      { octets = fits; sum = refl; some = some; zeros = not_longer_zeros xs e; ones = not_longer_ones xs e };
  few = few;
}

raw_of : (size : ℕ) (xs : List ℕ) → IsTrue (eqb (length xs) size) → IsRaw size xs xs
raw_of size xs e = record { is = refl; sized = eqb-true _ _ e }

pub object_of : (xs : List ℕ) → IsBytes xs → length xs ≡ 4
    → IsObject (record { kind = from_be_bytes w32 xs / 2 ^ 22; instance = from_be_bytes w32 xs % 2 ^ 22 }) xs
object_of xs fits four =
    let n = from_be_bytes w32 xs in
    let below : n < 2 ^ 32 = wide32.below xs fits in
    let whole : n / 2 ^ 22 * 2 ^ 22 + n % 2 ^ 22 ≡ n = omega arith in
    record { kind_fits = omega (arith, below); instance_fits = omega arith; is = sym (ap (to_be_bytes w32) whole ∙ wide32.back xs four fits) }

-- the number in four octets
pub four : (xs : List ℕ) → length xs ≡ 4 → number_in xs ≡ from_be_bytes w32 xs
four [] e = absurd (omega arith)
four (a ∷ []) e = absurd (omega arith)
four (a ∷ b ∷ []) e = absurd (omega arith)
four (a ∷ b ∷ c ∷ []) e = absurd (omega arith)
four (a ∷ b ∷ c ∷ d ∷ []) e = omega arith
four (a ∷ b ∷ c ∷ d ∷ x ∷ xs) e = absurd (omega arith)

abbrev pub object_in : List ℕ → ObjectId
object_in xs = record { kind = number_in xs / 2 ^ 22; instance = number_in xs % 2 ^ 22 }

pub object_meant : (xs : List ℕ) → IsBytes xs → length xs ≡ 4 → IsObject (object_in xs) xs
object_meant xs fits len = rw (four xs len) (object_of xs fits len)

-- the value of correct contents
abbrev pub IsMeant : ℕ → List ℕ → Type 0
IsMeant n xs = (kind_number (datum_in n xs) ≡ n) × IsContents (datum_in n xs) xs

pub kind_meant : (n : ℕ) (xs : List ℕ) → n < 13 → IsBytes xs → IsTrue (length_in n (length xs)) → flaw n xs ≡ None → IsMeant n xs
kind_meant zero xs lt fits len e = (refl, empty xs (eqb-true _ _ len))
kind_meant (suc zero) xs lt fits len e = (refl, empty xs (eqb-true _ _ len))
kind_meant (suc (suc zero)) xs lt fits len e =
    let k = between 0 9 (length xs) len in
    (refl, unsigned_of 8 xs fits k.0 (omega (arith, k.1)) (no_fault (is_longer_unsigned xs) NotShortest e))
kind_meant (suc (suc (suc zero))) xs lt fits len e =
    let k = between 0 9 (length xs) len in
    (refl, signed_of xs fits k.0 (omega (arith, k.1)) (no_fault (is_longer_signed xs) NotShortest e))
kind_meant (suc (suc (suc (suc zero)))) xs lt fits len e = (refl, raw_of 4 xs len)
kind_meant (suc (suc (suc (suc (suc zero))))) xs lt fits len e = (refl, raw_of 8 xs len)
kind_meant (suc (suc (suc (suc (suc (suc zero)))))) xs lt fits len e = (refl, refl)
kind_meant (suc (suc (suc (suc (suc (suc (suc zero))))))) [] lt fits len e = absurd cc
kind_meant (suc (suc (suc (suc (suc (suc (suc zero))))))) (x ∷ xs) lt fits len e = (refl, refl)
kind_meant (suc (suc (suc (suc (suc (suc (suc (suc zero)))))))) [] lt fits len e = absurd cc
kind_meant (suc (suc (suc (suc (suc (suc (suc (suc zero)))))))) (x ∷ xs) lt fits len e =
    (refl, record { is = refl; fits = fault_unless (bits_fit x xs) ReservedBits e })
kind_meant (suc (suc (suc (suc (suc (suc (suc (suc (suc zero))))))))) xs lt fits len e =
    let k = between 0 5 (length xs) len in
    (refl, unsigned_of 4 xs fits k.0 (omega (arith, k.1)) (no_fault (is_longer_unsigned xs) NotShortest e))
kind_meant (suc (suc (suc (suc (suc (suc (suc (suc (suc (suc zero)))))))))) xs lt fits len e = (refl, raw_of 4 xs len)
kind_meant (suc (suc (suc (suc (suc (suc (suc (suc (suc (suc (suc zero))))))))))) xs lt fits len e = (refl, raw_of 4 xs len)
kind_meant (suc (suc (suc (suc (suc (suc (suc (suc (suc (suc (suc (suc zero)))))))))))) xs lt fits len e = (refl, object_meant xs fits (eqb-true _ _ len))
kind_meant (suc (suc (suc (suc (suc (suc (suc (suc (suc (suc (suc (suc (suc n))))))))))))) xs lt fits len e = absurd (omega arith)

pub kind_takes : (n : ℕ) (xs : List ℕ) → n < 13 → IsBytes xs → IsTrue (length_in n (length xs)) → flaw n xs ≡ None → IsOfKind n xs
kind_takes n xs lt fits len e = let h = kind_meant n xs lt fits len e in (datum_in n xs, h.0, h.1)

-- ---- the contents of a value are accepted

unsigned_right : (most n : ℕ) (xs : List ℕ) → IsNumber most n xs → is_longer_unsigned xs ≡ false
unsigned_right most n xs h = let s = h.spelled.shortest in grind (arith, nat_tests)

signed_right : (xs : List ℕ) → (1 < length xs → get_or xs 0 0 ≡ 0 → 128 ≤ get_or xs 1 0) → (1 < length xs → get_or xs 0 0 ≡ 255 → get_or xs 1 0 < 128)
    → is_longer_signed xs ≡ false
signed_right xs p q = grind (arith, nat_tests)

pub record IsRight (n : ℕ) (xs : List ℕ) : Type 0 where
  pub len : length_in n (length xs) ≡ true
  pub none : flaw n xs ≡ None

raw_right : (size : ℕ) (a xs : List ℕ) → IsRaw size a xs → eqb (length xs) size ≡ true
raw_right size a xs h = eq-eqb _ _ (ap length h.is ∙ h.sized)

some_right : (x : ℕ) (a xs : List ℕ) → xs ≡ x ∷ a → ltb 0 (length xs) ≡ true
some_right x a xs e = lt-ltb 0 (length xs) (omega (arith, ap length e))

pub kind_again : (d : Datum) (xs : List ℕ) → IsContents d xs → IsRight (kind_number d) xs
kind_again null xs h = rw h (record { len = refl; none = refl })
kind_again (boolean b) xs h = rw h (record { len = refl; none = refl })
kind_again (unsigned n) xs h = record { len = between_from 0 9 (length xs) h.spelled.some (omega (arith, h.few)); none = rw (unsigned_right 8 n xs h) refl }
kind_again (signed z) xs h = record {
  len = between_from 0 9 (length xs) h.spelled.some (omega (arith, h.few));
  none = rw (signed_right xs h.spelled.zeros h.spelled.ones) refl;
}
kind_again (real a) xs h = record { len = raw_right 4 a xs h; none = refl }
kind_again (double a) xs h = record { len = raw_right 8 a xs h; none = refl }
kind_again (octets a) xs h = record { len = refl; none = refl }
kind_again (characters x a) xs h = record { len = some_right x a xs h; none = refl }
kind_again (bits x a) xs h = record { len = some_right x a xs h.is; none = rw (h.is, h.fits) refl }
kind_again (enumerated n) xs h = record { len = between_from 0 5 (length xs) h.spelled.some (omega (arith, h.few)); none = rw (unsigned_right 4 n xs h) refl }
kind_again (date a) xs h = record { len = raw_right 4 a xs h; none = refl }
kind_again (time a) xs h = record { len = raw_right 4 a xs h; none = refl }
kind_again (object i) xs h = record { len = rw h.is refl; none = refl }
