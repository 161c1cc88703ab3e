-- The parts before and after the first octet with a value.
use Rattle.std.proofs.Common.{◌≡◌, ℕ, suc, ◌+◌, nat_lt, true, false, Bool, ◌&&◌, ◌==◌, not, List, [], ◌∷◌, ◌++◌, length, take, drop, Some}
use Rattle.std.proofs.Common.{arith, refl, ap, length-append}
use Rattle.std.specs.List.{list_all, position_or_len}
use Rattle.std.specs.Char.{is_ascii_digit}
use Rattle.std.proofs.lemmas.Bool.Decides.{nat_tests}
use Rattle.bac_value_text.specs.Numbers.{is_octet, parts_at}

-- none of the octets has this value
abbrev pub lacks : ℕ → List ℕ → Bool
lacks octet xs = list_all (λ x. not (x == octet)) xs

pub both : (a b : Bool) → a && b ≡ true → (a ≡ true) × (b ≡ true)
both true b h = (refl, h)
both false b h = cc

same : (n : ℕ) → (n == n) ≡ true
same n = grind (arith, nat_tests)

first_place : (octet : ℕ) (xs ys : List ℕ) → lacks octet xs ≡ true → position_or_len (is_octet octet) (xs ++ (octet ∷ ys)) ≡ length xs
first_place octet [] ys h = rw (same octet) refl
first_place octet (x ∷ xs) ys h =
    let parts = both (not (x == octet)) (lacks octet xs) h in
    rw (parts.0, first_place octet xs ys parts.1) (omega arith)

taken : (xs ys : List ℕ) → take (length xs) (xs ++ ys) ≡ xs
taken [] ys = refl
taken (x ∷ xs) ys = ap (λ (l : List ℕ). x ∷ l) (taken xs ys)

dropped : (xs : List ℕ) (y : ℕ) (ys : List ℕ) → drop (suc (length xs)) (xs ++ (y ∷ ys)) ≡ ys
dropped [] y ys = refl
dropped (x ∷ xs) y ys = dropped xs y ys

pub parted : (octet : ℕ) (xs ys : List ℕ) → lacks octet xs ≡ true → parts_at octet (xs ++ (octet ∷ ys)) ≡ Some (xs, ys)
parted octet xs ys h =
    let within : nat_lt (length xs) (length (xs ++ (octet ∷ ys))) ≡ true = grind (arith, nat_tests, length-append xs (octet ∷ ys)) in
    let next : length xs + 1 ≡ suc (length xs) = omega arith in
    rw (first_place octet xs ys h, within, next, taken xs (octet ∷ ys), dropped xs octet ys) refl

-- digits do not contain an octet that is not a digit
pub digits_lack : (octet : ℕ) (xs : List ℕ) → is_ascii_digit octet ≡ false → list_all is_ascii_digit xs ≡ true → lacks octet xs ≡ true
digits_lack octet [] none h = refl
digits_lack octet (x ∷ xs) none h =
    let parts = both (is_ascii_digit x) (list_all is_ascii_digit xs) h in
    rw (other (x == octet) refl parts.0, digits_lack octet xs none parts.1) refl
  where
    other : (b : Bool) → (x == octet) ≡ b → is_ascii_digit x ≡ true → (x == octet) ≡ false
    other false e digit = e
    other true e digit =
        let is : x ≡ octet = grind (arith, nat_tests, e) in
        let digit_too : is_ascii_digit octet ≡ true = rw (← is) digit in
        cc
