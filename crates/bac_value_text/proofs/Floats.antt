-- Printed floats read as themselves.
use Rattle.std.proofs.Common.{◌≡◌, ℕ, ◌%◌, ◌^◌, ◌<◌, ◌≤◌, true, false, Bool, not, T, List, [], ◌∷◌, length, Some}
use Rattle.std.proofs.Common.{arith, refl, ap, subst, ◌∙◌}
use Rattle.std.specs.Int.{w32, w64, from_be_bytes}
use Rattle.std.specs.Float.{Float, nan, inf, fin, Format, binary32, binary64, float_is_finite}
use Rattle.std.specs.Float.Ieee.{is_nan, nan_bits, of_bits, to_bits}
use Rattle.std.proofs.lemmas.Bool.Decides.{nat_tests}
use Rattle.std.proofs.lemmas.Float.{not_nan_f32_bits, not_nan_f64_bits}
use Rattle.std.proofs.lemmas.Nat.{be_bytes_4, be_bytes_8}
use lib.Ieee.Bits.{nan_bits_is, to_bits-of_bits}
use Rattle.fast_float.specs.Parse.{parse_float}
use Rattle.ryu.specs.Plain.{word_of}
use Rattle.bac_value_text.specs.Numbers.{is_infinity}
use Rattle.bac_value.specs.Octets.{IsBytes}
use Rattle.bac_value_text.specs.Reading.{is_no_number, real_in, double_in}
use Rattle.bac_value_text.specs.Texts.{is_real_number, is_double_number, IsNumberText, IsRealText, IsDoubleText}

no_nan : (f : Format) (n : ℕ) → T (not (nan_bits f n)) → T (not (is_nan (of_bits f n)))
no_nan f n h = subst (λ (b : Bool). T (not b)) (nan_bits_is f n) h

is_false : (b : Bool) → T (not b) → b ≡ false
is_false true h = absurd h
is_false false h = refl

below_32 : (a : List ℕ) → length a ≡ 4 → IsBytes a → from_be_bytes w32 a < 2 ^ 32
below_32 (p ∷ q ∷ r ∷ s ∷ []) len each = omega (arith, each 0, each 1, each 2, each 3)
below_32 _ len each = absurd (omega (arith, len))

below_64 : (a : List ℕ) → length a ≡ 8 → IsBytes a → from_be_bytes w64 a < 2 ^ 64
below_64 (p ∷ q ∷ r ∷ s ∷ t ∷ u ∷ v ∷ w ∷ []) len each = omega (arith, each 0, each 1, each 2, each 3, each 4, each 5, each 6, each 7)
below_64 _ len each = absurd (omega (arith, len))

-- what is not finite is printed by its word
pub word_is_infinity : (x : Float) → T (not (is_nan x)) → float_is_finite x ≡ false → is_infinity (word_of x) ≡ true
unfolding is_nan float_is_finite
word_is_infinity nan h e = absurd h
word_is_infinity (inf true) h e = refl
word_is_infinity (inf false) h e = refl
word_is_infinity (fin s m k) h e = absurd (subst (λ (b : Bool). T b) e tt)

printed : (f : Format) (x : Float) (text : List ℕ) → T (not (is_nan x)) → parse_float f text ≡ Some x
    → (float_is_finite x ≡ false → text ≡ word_of x) → IsNumberText f x text
printed f x text real parsed word = (parsed, (λ e. ap is_infinity (word e) ∙ word_is_infinity x real e))

pub real_printed : (a text : List ℕ) → is_real_number a ≡ true → parse_float binary32 text ≡ Some (of_bits binary32 (from_be_bytes w32 a))
    → (float_is_finite (of_bits binary32 (from_be_bytes w32 a)) ≡ false → text ≡ word_of (of_bits binary32 (from_be_bytes w32 a)))
    → IsRealText (is_real_number a) a text
real_printed a text number parsed word =
    let n = from_be_bytes w32 a in
    let small : n % 0x8000_0000 ≤ 0x7f80_0000 = grind (arith, nat_tests, number) in
    rw number (printed binary32 (of_bits binary32 n) text (no_nan binary32 n (not_nan_f32_bits n small)) parsed word)

pub double_printed : (a text : List ℕ) → is_double_number a ≡ true → parse_float binary64 text ≡ Some (of_bits binary64 (from_be_bytes w64 a))
    → (float_is_finite (of_bits binary64 (from_be_bytes w64 a)) ≡ false → text ≡ word_of (of_bits binary64 (from_be_bytes w64 a)))
    → IsDoubleText (is_double_number a) a text
double_printed a text number parsed word =
    let n = from_be_bytes w64 a in
    let small : n % 0x8000_0000_0000_0000 ≤ 0x7ff0_0000_0000_0000 = grind (arith, nat_tests, number) in
    rw number (printed binary64 (of_bits binary64 n) text (no_nan binary64 n (not_nan_f64_bits n small)) parsed word)

-- a printed number is one
by_finite : (text : List ℕ) (x : Float) (b : Bool) → T (not (is_nan x)) → (float_is_finite x ≡ false → is_infinity text ≡ true)
    → float_is_finite x ≡ b → is_no_number text x ≡ false
by_finite text x true real named e = rw (is_false (is_nan x) real, e) refl
by_finite text x false real named e = rw (is_false (is_nan x) real, e, named e) refl

a_number : (text : List ℕ) (x : Float) → T (not (is_nan x)) → (float_is_finite x ≡ false → is_infinity text ≡ true) → is_no_number text x ≡ false
a_number text x real named = by_finite text x (float_is_finite x) real named refl

pub real_read : (a text : List ℕ) → length a ≡ 4 → IsBytes a → is_real_number a ≡ true
    → IsNumberText binary32 (of_bits binary32 (from_be_bytes w32 a)) text → real_in text ≡ Some a
real_read a text len each number (parsed, named) =
    let n = from_be_bytes w32 a in
    let small : n % 0x8000_0000 ≤ 0x7f80_0000 = grind (arith, nat_tests, number) in
    let real : T (not (is_nan (of_bits binary32 n))) = no_nan binary32 n (not_nan_f32_bits n small) in
    let back : to_bits binary32 (of_bits binary32 n) ≡ n = to_bits-of_bits binary32 n (below_32 a len each) real in
    rw (parsed, a_number text (of_bits binary32 n) real named, back) (ap Some (be_bytes_4 a n len each refl))

pub double_read : (a text : List ℕ) → length a ≡ 8 → IsBytes a → is_double_number a ≡ true
    → IsNumberText binary64 (of_bits binary64 (from_be_bytes w64 a)) text → double_in text ≡ Some a
double_read a text len each number (parsed, named) =
    let n = from_be_bytes w64 a in
    let small : n % 0x8000_0000_0000_0000 ≤ 0x7ff0_0000_0000_0000 = grind (arith, nat_tests, number) in
    let real : T (not (is_nan (of_bits binary64 n))) = no_nan binary64 n (not_nan_f64_bits n small) in
    let back : to_bits binary64 (of_bits binary64 n) ≡ n = to_bits-of_bits binary64 n (below_64 a len each) real in
    rw (parsed, a_number text (of_bits binary64 n) real named, back) (ap Some (be_bytes_8 a n len each refl))
