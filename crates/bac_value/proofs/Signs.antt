-- Numbers in two's complement.
use Rattle.std.proofs.Common.{◌≡◌, ℕ, zero, suc, ◌+◌, ◌-◌, ◌*◌, ◌/◌, ◌%◌, ◌^◌, ◌<◌, ◌≤◌, ℤ, pos, negsuc, ◌-ℤ◌, to_z, of_z, cond, ltb}
use Rattle.std.proofs.Common.{length, get_or, refl, ap, ◌∙◌, arith}
use Rattle.std.specs.Int.{w64}
use Rattle.std.proofs.lemmas.Int.{ints}
use Rattle.std.proofs.lemmas.Bool.{le-ltb, lt-ltb}
use Rattle.std.proofs.lemmas.Nat.{pow-add}
use Rattle.std.proofs.Math.Nat.{pow-suc}
use Rattle.byteorder.specs.Endian.{big_bytes}
use Rattle.bac_value.specs.Number.{signed_in, IsSigned, distance, half_width_of, complement, signed_octets}
use Rattle.bac_value.proofs.Numbers.{bits_power, length-big, IsBytes-big, number_in_big, two_front, quotient_between, IsHalfWidth, half_width_is}

-- a number in the upper half of its range
pub upper_half : (n greatest half whole : ℕ) → n ≤ greatest → greatest / 2 < n → greatest < 2 ^ 64 → greatest + 1 ≡ whole → greatest / 2 + 1 ≡ half
    → to_z w64 (of_z w64 (negsuc 0 -ℤ to_z w64 (greatest - n))) ≡ cond (ltb n half) (pos n) (pos n -ℤ pos whole)
upper_half n greatest half whole le above fits w h = rw (le-ltb n half (omega arith)) (omega (arith, ints))

-- ---- what is written

pub half_power : (j : ℕ) → 2 ^ (8 * suc j - 1) ≡ 128 * 256 ^ j
half_power j =
    let e : 8 * suc j - 1 ≡ 8 * j + 7 = omega arith in
    rw (e, pow-add 2 (8 * j) 7, bits_power j) (omega arith)

pub whole_power : (j : ℕ) → 2 ^ (8 * suc j) ≡ 256 * 256 ^ j
whole_power j = bits_power (suc j) ∙ rw (pow-suc 256 j) (omega arith)

-- j + 1 octets of n, read as two's complement
signed_in-big : (j n : ℕ) → n < 256 ^ suc j → signed_in (big_bytes (suc j) n) ≡ cond (ltb n (128 * 256 ^ j)) (pos n) (pos n -ℤ pos (256 * 256 ^ j))
signed_in-big j n lt = rw (length-big (suc j) n, number_in_big (suc j) n lt, half_power j, whole_power j) refl

-- what the first two octets of a number must be
pub record IsSignedFront (x y : ℕ) : Type 0 where
  pub zeros : x ≡ 0 → 128 ≤ y
  pub ones : x ≡ 255 → y < 128

below_half : (q : ℕ) → 128 ≤ q → q < 32768 → IsSignedFront (q / 256 % 256) (q % 256)
below_half q low high = record { zeros = λ e. omega (arith, e); ones = λ e. omega (arith, e) }

above_half : (q : ℕ) → 32768 ≤ q → q < 65408 → IsSignedFront (q / 256 % 256) (q % 256)
above_half q low high = record { zeros = λ e. omega (arith, e); ones = λ e. omega (arith, e) }

front_is : (i n : ℕ) → IsSignedFront (n / 256 ^ i / 256 % 256) (n / 256 ^ i % 256)
    → IsSignedFront (get_or (big_bytes (suc (suc i)) n) 0 0) (get_or (big_bytes (suc (suc i)) n) 1 0)
front_is i n h = let f = two_front i n in rw (f.0, f.1) h

signed_big : (z : ℤ) (j n : ℕ) → n < 256 ^ suc j → signed_in (big_bytes (suc j) n) ≡ z
    → ((i : ℕ) → j ≡ suc i → IsSignedFront (n / 256 ^ i / 256 % 256) (n / 256 ^ i % 256)) → IsSigned z (big_bytes (suc j) n)
signed_big z zero n lt sum h = record {
  octets = IsBytes-big 1 n;
  sum = sum;
  some = omega arith;
  zeros = λ more e. absurd (omega (arith, more, length-big 1 n));
  ones = λ more e. absurd (omega (arith, more, length-big 1 n));
}
signed_big z (suc i) n lt sum h =
    let f = front_is i n (h i refl) in
    record { octets = IsBytes-big (suc (suc i)) n; sum = sum; some = omega arith; zeros = λ more e. f.zeros e; ones = λ more e. f.ones e }

positive_spelled : (m j : ℕ) → IsHalfWidth m (suc j) → IsSigned (pos m) (big_bytes (suc j) m)
positive_spelled m j h =
    let e : suc j - 1 ≡ j = omega arith in
    let fits = rw e at h.fits in
    let whole : m < 256 ^ suc j = rw (pow-suc 256 j) (omega (arith, fits)) in
    signed_big (pos m) j m whole (signed_in-big j m whole ∙ rw (lt-ltb m (128 * 256 ^ j) fits) refl)
    (λ i is.
    let p = 256 ^ i in
    let power : 256 ^ j ≡ p * 256 = ap (λ k. 256 ^ k) is ∙ pow-suc 256 i in
    let less : suc j - 2 ≡ i = omega (arith, is) in
    let least = rw less at (h.least (omega (arith, is))) in
    let q = quotient_between m i 128 32768 least (omega (arith, fits, power)) in
    below_half (m / 256 ^ i) q.0 q.1)

negative_spelled : (m j n : ℕ) → IsHalfWidth m (suc j) → n ≡ 256 ^ suc j - 1 - m → IsSigned (negsuc m) (big_bytes (suc j) n)
negative_spelled m j n h is =
    let e : suc j - 1 ≡ j = omega arith in
    let fits = rw e at h.fits in
    let power : 256 ^ suc j ≡ 256 ^ j * 256 = pow-suc 256 j in
    let whole : n < 256 ^ suc j = omega (arith, is, power, fits) in
    let high : 128 * 256 ^ j ≤ n = omega (arith, is, power, fits) in
    let less : pos n -ℤ pos (256 * 256 ^ j) ≡ negsuc m = omega (arith, ints, is, power, fits) in
    signed_big (negsuc m) j n whole (signed_in-big j n whole ∙ rw (le-ltb n (128 * 256 ^ j) high) less)
    (λ i at.
    let p = 256 ^ i in
    let inner : 256 ^ j ≡ p * 256 = ap (λ k. 256 ^ k) at ∙ pow-suc 256 i in
    let two : suc j - 2 ≡ i = omega (arith, at) in
    let least = rw two at (h.least (omega (arith, at))) in
    let q = quotient_between n i 32768 65408 (omega (arith, high, inner)) (omega (arith, is, power, inner, least, fits)) in
    above_half (n / 256 ^ i) q.0 q.1)

half_spelled : (z : ℤ) (w : ℕ) → half_width_of (distance z) ≡ w → IsHalfWidth (distance z) w → IsSigned z (big_bytes w (complement z))
half_spelled z zero same h = let some = h.some in absurd (omega arith)
half_spelled (pos m) (suc j) same h = positive_spelled m j h
half_spelled (negsuc m) (suc j) same h = negative_spelled m j (256 ^ half_width_of m - 1 - m) h (ap (λ (k : ℕ). 256 ^ k - 1 - m) same)

pub signed_spelled : (z : ℤ) → distance z < 2 ^ 63 → IsSigned z (signed_octets z)
unfolding signed_octets
signed_spelled z lt = half_spelled z (half_width_of (distance z)) refl (half_width_is (distance z) lt)

pub length-signed : (z : ℤ) → length (signed_octets z) ≡ half_width_of (distance z)
unfolding signed_octets
length-signed z = length-big (half_width_of (distance z)) (complement z)
