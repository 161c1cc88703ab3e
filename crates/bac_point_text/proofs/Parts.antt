-- The parts of a text before and after its first colon.
use Rattle.std.proofs.Common.{◌≡◌, ℕ, suc, ◌+◌, nat_lt, true, false, Bool, ◌&&◌, ◌==◌, not, List, [], ◌∷◌, ◌++◌, length, take, drop, Some}
use Rattle.std.proofs.Common.{arith, refl, ap, length-append}
use Rattle.std.specs.List.{list_all, position_or_len}
use Rattle.std.proofs.lemmas.Bool.Decides.{nat_tests}
use Rattle.bac_value_text.specs.Numbers.{is_octet, parts_at}

-- none of the octets is a colon
abbrev pub lacks_colon : List ℕ → Bool
lacks_colon xs = list_all (λ x. not (x == 58)) xs

pub both : (a b : Bool) → a && b ≡ true → (a ≡ true) × (b ≡ true)
both true b h = (refl, h)
both false b h = cc

first_place : (xs ys : List ℕ) → lacks_colon xs ≡ true → position_or_len (is_octet 58) (xs ++ (58 ∷ ys)) ≡ length xs
first_place [] ys h = refl
first_place (x ∷ xs) ys h =
    let parts = both (not (x == 58)) (lacks_colon xs) h in
    rw (parts.0, first_place xs ys parts.1) (omega arith)

taken : (xs ys : List ℕ) → take (length xs) (xs ++ ys) ≡ xs
taken [] ys = refl
taken (x ∷ xs) ys = ap (λ (l : List ℕ). x ∷ l) (taken xs ys)

dropped : (xs : List ℕ) (y : ℕ) (ys : List ℕ) → drop (suc (length xs)) (xs ++ (y ∷ ys)) ≡ ys
dropped [] y ys = refl
dropped (x ∷ xs) y ys = dropped xs y ys

pub parted : (xs ys : List ℕ) → lacks_colon xs ≡ true → parts_at 58 (xs ++ (58 ∷ ys)) ≡ Some (xs, ys)
parted xs ys h =
    let within : nat_lt (length xs) (length (xs ++ (58 ∷ ys))) ≡ true = grind (arith, nat_tests, length-append xs (58 ∷ ys)) in
    let next : length xs + 1 ≡ suc (length xs) = omega arith in
    rw (first_place xs ys h, within, next, taken xs (58 ∷ ys), dropped xs 58 ys) refl
