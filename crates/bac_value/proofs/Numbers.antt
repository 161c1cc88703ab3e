-- Unsigned numbers in octets, most significant first.
use Rattle.std.proofs.Common.{◌≡◌, ℕ, zero, suc, ◌+◌, ◌-◌, ◌*◌, ◌/◌, ◌%◌, ◌^◌, ◌<◌, ◌≤◌, List, [], replicate, ◌∷◌, length, get_or, refl, sym, ap, ◌∙◌}
use Rattle.std.proofs.Common.{arith, inl, inr}
use Rattle.std.proofs.Math.Nat.{pow-suc, pow-succ', pow-le-pow_right, one-le-pow, mul_assoc, mul-le-mul_right, add-mul, add_assoc}
use Rattle.std.proofs.Math.Nat.{mul-add-mod_self_right, div-add-mod', mod-eq_of_lt, mod-lt, div-div-eq-div-mul}
use Rattle.std.proofs.lemmas.Nat.{pow-add, mul-add-lt, le-div, div_below}
use Rattle.std.proofs.lemmas.Bool.{cases_lt, lt-ltb, le-ltb}
use Rattle.std.specs.Int.{byte_at, w64, from_be_bytes}
use Rattle.byteorder.specs.Endian.{big_bytes, big_from}
use Rattle.byteorder.proofs.Bytes.{from_be_bytes-put_mid8}
use Rattle.bac_value.specs.Octets.{IsBytes}
use Rattle.bac_value.specs.Number.{number_in, IsUnsigned, width_of, half_width_of, unsigned_octets}
use Rattle.bac_value.proofs.Steps.{IsBytes-rest}
use borrow.Rule.Slice.PartMut.{put_mid}

pow_pos256 : (n : ℕ) → 0 < 256 ^ n
pow_pos256 n = let h = one-le-pow n 256 (omega arith) in omega arith

pub number_in-lt : (xs : List ℕ) → IsBytes xs → number_in xs < 256 ^ length xs
number_in-lt [] h = omega arith
number_in-lt (x ∷ xs) h =
    let below = number_in-lt xs (IsBytes-rest x xs h) in
    let fits : x * 256 ^ length xs + number_in xs < 256 ^ length xs * 256 = mul-add-lt x (256 ^ length xs) (number_in xs) 256 (h 0) below in
    rw (pow-suc 256 (length xs)) fits

-- ---- octets that are read

-- leaving out the first octet of a list moves each place by one
big_from-rest : (i n x : ℕ) (xs : List ℕ) → big_from (suc i) n (x ∷ xs) ≡ big_from i n xs
big_from-rest i zero x xs = refl
big_from-rest i (suc n) x xs = rw (big_from-rest (suc i) n x xs) refl

big_from-all : (xs : List ℕ) → big_from 0 (length xs) xs ≡ number_in xs
big_from-all [] = refl
big_from-all (x ∷ xs) = rw (big_from-rest 0 (length xs) x xs, big_from-all xs) refl

-- at most eight octets, preceded by zeros
pub number_in_eight : (xs : List ℕ) → length xs ≤ 8 → from_be_bytes w64 (put_mid (8 - length xs) (8 - (8 - length xs)) (replicate 8 0) xs) ≡ number_in xs
number_in_eight xs few = from_be_bytes-put_mid8 xs (length xs) few refl ∙ big_from-all xs

pub few_octets : (xs : List ℕ) (k n : ℕ) → length xs ≤ k → n < 256 ^ length xs → n < 256 ^ k
few_octets xs k n few lt =
    let most : 256 ^ length xs ≤ 256 ^ k = pow-le-pow_right {n = 256} (omega arith) {i = length xs} {j = k} few in
    omega (arith, lt, most)

pub bits_power : (k : ℕ) → 2 ^ (8 * k) ≡ 256 ^ k
bits_power zero = refl
bits_power (suc k) =
    let eight : 8 * suc k ≡ 8 * k + 8 = omega arith in
    rw (eight, pow-add 2 (8 * k) 8, bits_power k, pow-suc 256 k) refl

-- ---- how many octets a number needs

pub record IsWidth (n w : ℕ) : Type 0 where
  pub some : 0 < w
  pub most : w ≤ 8
  pub fits : n < 256 ^ w
  pub least : 1 < w → 256 ^ (w - 1) ≤ n

pub width_is : (n : ℕ) → n < 2 ^ 64 → IsWidth n (width_of n)
width_is n lt = elim (cases_lt n 0x100) [
  | inl b ↦ rw (lt-ltb n 0x100 b) (record { some = omega arith; most = omega arith; fits = b; least = λ m. absurd (omega arith) })
  | inr a0 ↦ rw (le-ltb n 0x100 a0) (elim (cases_lt n 0x1_0000) [
    | inl b ↦ rw (lt-ltb n 0x1_0000 b) (record { some = omega arith; most = omega arith; fits = b; least = λ m. a0 })
    | inr a1 ↦ rw (le-ltb n 0x1_0000 a1) (elim (cases_lt n 0x100_0000) [
      | inl b ↦ rw (lt-ltb n 0x100_0000 b) (record { some = omega arith; most = omega arith; fits = b; least = λ m. a1 })
      | inr a2 ↦ rw (le-ltb n 0x100_0000 a2) (elim (cases_lt n 0x1_0000_0000) [
        | inl b ↦ rw (lt-ltb n 0x1_0000_0000 b) (record { some = omega arith; most = omega arith; fits = b; least = λ m. a2 })
        | inr a3 ↦ rw (le-ltb n 0x1_0000_0000 a3) (elim (cases_lt n 0x100_0000_0000) [
          | inl b ↦ rw (lt-ltb n 0x100_0000_0000 b) (record { some = omega arith; most = omega arith; fits = b; least = λ m. a3 })
          | inr a4 ↦ rw (le-ltb n 0x100_0000_0000 a4) (elim (cases_lt n 0x1_0000_0000_0000) [
            | inl b ↦ rw (lt-ltb n 0x1_0000_0000_0000 b) (record { some = omega arith; most = omega arith; fits = b; least = λ m. a4 })
            | inr a5 ↦ rw (le-ltb n 0x1_0000_0000_0000 a5) (elim (cases_lt n 0x100_0000_0000_0000) [
              | inl b ↦ rw (lt-ltb n 0x100_0000_0000_0000 b) (record { some = omega arith; most = omega arith; fits = b; least = λ m. a5 })
              | inr a6 ↦ rw (le-ltb n 0x100_0000_0000_0000 a6) (record { some = omega arith; most = omega arith; fits = lt; least = λ m. a6 })
            ])
          ])
        ])
      ])
    ])
  ])
]

-- the same for a number in the lower half of its range
pub record IsHalfWidth (n w : ℕ) : Type 0 where
  pub some : 0 < w
  pub most : w ≤ 8
  pub fits : n < 128 * 256 ^ (w - 1)
  pub least : 1 < w → 128 * 256 ^ (w - 2) ≤ n

pub half_width_is : (n : ℕ) → n < 2 ^ 63 → IsHalfWidth n (half_width_of n)
half_width_is n lt = elim (cases_lt n 0x80) [
  | inl b ↦ rw (lt-ltb n 0x80 b) (record { some = omega arith; most = omega arith; fits = b; least = λ m. absurd (omega arith) })
  | inr a0 ↦ rw (le-ltb n 0x80 a0) (elim (cases_lt n 0x8000) [
    | inl b ↦ rw (lt-ltb n 0x8000 b) (record { some = omega arith; most = omega arith; fits = b; least = λ m. a0 })
    | inr a1 ↦ rw (le-ltb n 0x8000 a1) (elim (cases_lt n 0x80_0000) [
      | inl b ↦ rw (lt-ltb n 0x80_0000 b) (record { some = omega arith; most = omega arith; fits = b; least = λ m. a1 })
      | inr a2 ↦ rw (le-ltb n 0x80_0000 a2) (elim (cases_lt n 0x8000_0000) [
        | inl b ↦ rw (lt-ltb n 0x8000_0000 b) (record { some = omega arith; most = omega arith; fits = b; least = λ m. a2 })
        | inr a3 ↦ rw (le-ltb n 0x8000_0000 a3) (elim (cases_lt n 0x80_0000_0000) [
          | inl b ↦ rw (lt-ltb n 0x80_0000_0000 b) (record { some = omega arith; most = omega arith; fits = b; least = λ m. a3 })
          | inr a4 ↦ rw (le-ltb n 0x80_0000_0000 a4) (elim (cases_lt n 0x8000_0000_0000) [
            | inl b ↦ rw (lt-ltb n 0x8000_0000_0000 b) (record { some = omega arith; most = omega arith; fits = b; least = λ m. a4 })
            | inr a5 ↦ rw (le-ltb n 0x8000_0000_0000 a5) (elim (cases_lt n 0x80_0000_0000_0000) [
              | inl b ↦ rw (lt-ltb n 0x80_0000_0000_0000 b) (record { some = omega arith; most = omega arith; fits = b; least = λ m. a5 })
              | inr a6 ↦ rw (le-ltb n 0x80_0000_0000_0000 a6) (record { some = omega arith; most = omega arith; fits = lt; least = λ m. a6 })
            ])
          ])
        ])
      ])
    ])
  ])
]

-- ---- the octets that are written

byte_at-pow : (k x : ℕ) → byte_at k x ≡ x / 256 ^ k % 256
byte_at-pow zero x = omega arith
byte_at-pow (suc k) x = refl

pub length-big : (k n : ℕ) → length (big_bytes k n) ≡ k
length-big zero n = refl
length-big (suc k) n = ap suc (length-big k n)

pub IsBytes-big : (k n : ℕ) → IsBytes (big_bytes k n)
IsBytes-big zero n i = omega arith
IsBytes-big (suc k) n zero = rw (byte_at-pow k n) (omega arith)
IsBytes-big (suc k) n (suc i) = IsBytes-big k n i

-- the two low digits of n, to the bases c and then m
mod-split : (n m c : ℕ) → 0 < m → 0 < c → n % (m * c) ≡ (n / c % m) * c + n % c
mod-split n m c hm hc =
    let a = mod-lt (n / c) hm in
    let b = mod-lt n hc in
    let top : (n / c % m + 1) * c ≤ m * c = mul-le-mul_right c (omega arith) in
    let expand : (n / c % m + 1) * c ≡ n / c % m * c + 1 * c = add-mul (n / c % m) 1 c in
    let split : n ≡ n / c / m * (m * c) + (n / c % m * c + n % c) =
    sym (div-add-mod' n c)
    ∙ ap (λ (x : ℕ). x * c + n % c) (sym (div-add-mod' (n / c) m))
    ∙ ap (λ (x : ℕ). x + n % c) (add-mul (n / c / m * m) (n / c % m) c ∙ ap (λ (x : ℕ). x + n / c % m * c) (mul_assoc (n / c / m) m c))
    ∙ add_assoc (n / c / m * (m * c)) (n / c % m * c) (n % c) in
    ap (λ (x : ℕ). x % (m * c)) split ∙ mul-add-mod_self_right (n / c / m) (m * c) (n / c % m * c + n % c) ∙ mod-eq_of_lt (omega arith)

number_in-big : (k n : ℕ) → number_in (big_bytes k n) ≡ n % 256 ^ k
number_in-big zero n = omega arith
number_in-big (suc k) n =
    let split = mod-split n 256 (256 ^ k) (omega arith) (pow_pos256 k) in
    rw (length-big k n, number_in-big k n, byte_at-pow k n, pow-succ' 256 k, split) refl

pub number_in_big : (k n : ℕ) → n < 256 ^ k → number_in (big_bytes k n) ≡ n
number_in_big k n lt = number_in-big k n ∙ mod-eq_of_lt lt

first_some : (k n : ℕ) → n < 256 ^ suc k → 256 ^ (suc k - 1) ≤ n → 0 < byte_at k n
first_some k n lt least =
    let e : suc k - 1 ≡ k = omega arith in
    let least' : 1 * 256 ^ k ≤ n = omega (arith, rw e at least) in
    let low = le-div 1 n (256 ^ k) (pow_pos256 k) least' in
    let lt' : n < 256 * 256 ^ k = rw (← pow-succ' 256 k) lt in
    let high = div_below n (256 ^ k) 256 (pow_pos256 k) lt' in
    rw (byte_at-pow k n) (omega (arith, low, high))

-- the octets of a number that needs k of them
spelled_big : (n k : ℕ) → IsWidth n k → IsUnsigned n (big_bytes k n)
spelled_big n zero w = let some = w.some in absurd (omega arith)
spelled_big n (suc k) w =
    record {
      octets = IsBytes-big (suc k) n;
      sum = number_in_big (suc k) n w.fits;
      some = omega arith;
      shortest = λ more. first_some k n w.fits (w.least (omega (arith, more, length-big (suc k) n)));
    }

pub unsigned_spelled : (n : ℕ) → n < 2 ^ 64 → IsUnsigned n (unsigned_octets n)
unfolding unsigned_octets
unsigned_spelled n lt = spelled_big n (width_of n) (width_is n lt)

pub length-unsigned : (n : ℕ) → length (unsigned_octets n) ≡ width_of n
unfolding unsigned_octets
length-unsigned n = length-big (width_of n) n

pub width-le : (n k : ℕ) → n < 2 ^ 64 → 0 < k → n < 256 ^ k → width_of n ≤ k
width-le n k lt some fits =
    elim (cases_lt k (width_of n)) [
      | inl long ↦
          let w = width_is n lt in
          let low = w.least (omega arith) in
          let grows : 256 ^ k ≤ 256 ^ (width_of n - 1) = pow-le-pow_right {n = 256} (omega arith) {i = k} {j = width_of n - 1} (omega arith) in
          absurd (omega (arith, low, fits, grows))
      | inr few ↦ few
    ]

-- ---- the first two of them

-- the two digits at the front of k + 2 octets, as digits of one number
pub two_front : (k n : ℕ) → (get_or (big_bytes (suc (suc k)) n) 0 0 ≡ n / 256 ^ k / 256 % 256) × (get_or (big_bytes (suc (suc k)) n) 1 0 ≡ n / 256 ^ k % 256)
two_front k n = (
  byte_at-pow (suc k) n ∙ ap (λ (x : ℕ). x % 256) (ap (λ (p : ℕ). n / p) (pow-suc 256 k) ∙ sym (div-div-eq-div-mul n (256 ^ k) 256)),
  byte_at-pow k n,
)

-- a quotient by a power
pub quotient_between : (n k low high : ℕ) → low * 256 ^ k ≤ n → n < high * 256 ^ k → (low ≤ n / 256 ^ k) × (n / 256 ^ k < high)
quotient_between n k low high p q = (le-div low n (256 ^ k) (pow_pos256 k) p, div_below n (256 ^ k) high (pow_pos256 k) q)
