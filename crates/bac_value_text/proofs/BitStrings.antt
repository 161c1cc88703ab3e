-- Bits as digits, and their octets.
use Rattle.std.proofs.Common.{◌≡◌, ℕ, zero, suc, ◌+◌, ◌-◌, ◌*◌, ◌/◌, ◌%◌, ◌^◌, ◌<◌, nat_lt, true, false, ◌==◌, List, [], ◌∷◌, ◌++◌, length, take, drop, slice_index, Some}
use Rattle.std.proofs.Common.{arith, refl, ◌∙◌, ap, if◌then◌else◌, length-drop}
use Rattle.std.specs.List.{list_all}
use Rattle.std.proofs.lemmas.Bool.Decides.{nat_tests}
use Rattle.std.proofs.Math.Seq.{take-append-add}
use Rattle.std.proofs.lemmas.List.{length-take-le}
use Rattle.bac_value.specs.Limits.{bits_fit}
use Rattle.bac_value.specs.Octets.{IsBytes}
use Rattle.bac_value.specs.Value.{bits}
use Rattle.bac_value_text.specs.Reading.{octet_in, octets_for, is_bit, bits_in}
use Rattle.bac_value_text.specs.Texts.{bit_digits, all_bits, bits_text}
use Rattle.bac_value_text.proofs.Parts.{both}

-- the first octet of some bits, and the other octets
pub more_octets : (word : List ℕ) → 0 < length word → octets_for word ≡ octet_in word ∷ octets_for (drop 8 word)
more_octets word some =
    let count : (length word + 7) / 8 ≡ suc ((length (drop 8 word) + 7) / 8) = omega (arith, length-drop 8 word) in
    rw count refl

-- ---- what is printed is read

bit_back : (n : ℕ) → (if (48 + n % 2) == 49 then 1 else 0) ≡ n % 2
bit_back n = grind (arith, nat_tests)

bit_is : (n : ℕ) → is_bit (48 + n % 2) ≡ true
bit_is n = grind (arith, nat_tests)

octet_back : (o : ℕ) (rest : List ℕ) → o < 256 → octet_in (bit_digits o ++ rest) ≡ o
octet_back o rest small = simp bit_back (omega arith)

-- the last octet, in which some bits are missing
last_back : (unused o : ℕ) → unused < 8 → o < 256 → o % 2 ^ unused ≡ 0 → octets_for (take (8 - unused) (bit_digits o)) ≡ o ∷ []
last_back zero o few small zeros = ap (λ (n : ℕ). n ∷ []) (simp bit_back (omega arith))
last_back (suc zero) o few small zeros = ap (λ (n : ℕ). n ∷ []) (simp bit_back (omega arith))
last_back (suc (suc zero)) o few small zeros = ap (λ (n : ℕ). n ∷ []) (simp bit_back (omega arith))
last_back (suc (suc (suc zero))) o few small zeros = ap (λ (n : ℕ). n ∷ []) (simp bit_back (omega arith))
last_back (suc (suc (suc (suc zero)))) o few small zeros = ap (λ (n : ℕ). n ∷ []) (simp bit_back (omega arith))
last_back (suc (suc (suc (suc (suc zero))))) o few small zeros = ap (λ (n : ℕ). n ∷ []) (simp bit_back (omega arith))
last_back (suc (suc (suc (suc (suc (suc zero)))))) o few small zeros = ap (λ (n : ℕ). n ∷ []) (simp bit_back (omega arith))
last_back (suc (suc (suc (suc (suc (suc (suc zero))))))) o few small zeros = ap (λ (n : ℕ). n ∷ []) (simp bit_back (omega arith))
last_back (suc (suc (suc (suc (suc (suc (suc (suc n)))))))) o few small zeros = absurd (omega (arith, few))

bits_count : (a : List ℕ) → length (all_bits a) ≡ 8 * length a
bits_count [] = refl
bits_count (o ∷ os) = omega (arith, bits_count os)

abbrev last_of : List ℕ → ℕ
last_of [] = 0
last_of (o ∷ []) = o
last_of (o ∷ p ∷ os) = last_of (p ∷ os)

last_is : (o : ℕ) (os : List ℕ) → slice_index (o ∷ os) (length (o ∷ os) - 1) ≡ last_of (o ∷ os)
last_is o [] = refl
last_is o (p ∷ os) =
    let place : suc (suc (length os)) - 1 ≡ suc (suc (length os) - 1) = omega arith in
    rw place (last_is p os)

octets_back : (unused : ℕ) (a : List ℕ) → IsBytes a → unused < 8 → last_of a % 2 ^ unused ≡ 0 → octets_for (bits_text unused a) ≡ a
octets_back unused [] each few zeros = ap octets_for (no_bits (0 - unused)) where
  no_bits : (n : ℕ) → ◌≡◌ {A = List ℕ} (take n []) []
  no_bits zero = refl
  no_bits (suc n) = refl
octets_back unused (o ∷ []) each few zeros = last_back unused o few (each 0) zeros
octets_back unused (o ∷ p ∷ os) each few zeros =
    let rest = all_bits (p ∷ os) in
    let count : length (bit_digits o ++ rest) - unused ≡ 8 + (length rest - unused) = omega (arith, bits_count (p ∷ os)) in
    let text : bits_text unused (o ∷ p ∷ os) ≡ bit_digits o ++ bits_text unused (p ∷ os)
    = ap (λ (n : ℕ). take n (bit_digits o ++ rest)) count ∙ take-append-add (bit_digits o) rest (length rest - unused) in
    ap octets_for text ∙ more_octets (bit_digits o ++ bits_text unused (p ∷ os)) (omega arith)
    ∙ ap (λ (n : ℕ). n ∷ octets_for (bits_text unused (p ∷ os))) (octet_back o (bits_text unused (p ∷ os)) (each 0))
    ∙ ap (λ (l : List ℕ). o ∷ l) (octets_back unused (p ∷ os) (λ i. each (suc i)) few zeros)

all_are_bits : (a : List ℕ) → list_all is_bit (all_bits a) ≡ true
all_are_bits [] = refl
all_are_bits (o ∷ os) = simp (bit_is, all_are_bits os)

taken_are : (n : ℕ) (xs : List ℕ) → list_all is_bit xs ≡ true → list_all is_bit (take n xs) ≡ true
taken_are zero xs h = refl
taken_are (suc n) [] h = refl
taken_are (suc n) (x ∷ xs) h =
    let parts = both (is_bit x) (list_all is_bit xs) h in
    rw (parts.0, taken_are n xs parts.1) refl

-- the tests that a bit string passes
tests_of : (unused : ℕ) (a : List ℕ) → bits_fit unused a ≡ true → (unused < 8) × (last_of a % 2 ^ unused ≡ 0) × (length a ≡ 0 → unused ≡ 0)
tests_of unused [] h =
    let parts = both (nat_lt unused 8) (unused == 0) h in
    let none : unused ≡ 0 = grind (arith, nat_tests, parts.1) in
    (omega (arith, none), rw none refl, λ _. none)
tests_of unused (o ∷ os) h =
    let some : (length (o ∷ os) == 0) ≡ false = grind (arith, nat_tests) in
    let parts = both (nat_lt unused 8) (slice_index (o ∷ os) (length (o ∷ os) - 1) % 2 ^ unused == 0) (rw some at h) in
    let few : unused < 8 = grind (arith, nat_tests, parts.0) in
    let zeros : slice_index (o ∷ os) (length (o ∷ os) - 1) % 2 ^ unused ≡ 0 = grind (arith, nat_tests, parts.1) in
    (few, rw (last_is o os) at zeros, λ (e : length (o ∷ os) ≡ 0). absurd (omega (arith, e)))

unused_back : (unused n len : ℕ) → unused < 8 → (n ≡ 0 → unused ≡ 0) → len ≡ 8 * n - unused → (8 - len % 8) % 8 ≡ unused
unused_back unused zero len few none is = let e : unused ≡ 0 = none refl in omega (arith, e, is)
unused_back unused (suc n) len few none is = omega (arith, few, is)

pub bits_read : (unused : ℕ) (a : List ℕ) → IsBytes a → bits_fit unused a ≡ true → length a + 1 < 2 ^ 32 → bits_in (bits_text unused a) ≡ Some (bits unused a)
bits_read unused a each fits short =
    let tests = tests_of unused a fits in
    let len : length (bits_text unused a) ≡ 8 * length a - unused
    = length-take-le (length (all_bits a) - unused) (all_bits a) (omega arith) ∙ ap (λ (n : ℕ). n - unused) (bits_count a) in
    let are : list_all is_bit (bits_text unused a) ≡ true = taken_are (length (all_bits a) - unused) (all_bits a) (all_are_bits a) in
    let size : nat_lt (length a + 1) (2 ^ 32) ≡ true = grind (arith, nat_tests, short) in
    rw (are, unused_back unused (length a) (length (bits_text unused a)) tests.0 tests.2 len, octets_back unused a each tests.0 tests.1, fits, size) refl
