-- Each round of the network takes places to places, and two places to two.
use Rattle.std.proofs.Common.{◌≡◌, ℕ, ◌+◌, ◌*◌, ◌/◌, ◌%◌, ◌<◌, List, sym, ◌∙◌, ap, arith}
use Rattle.std.proofs.Math.Nat.{div-add-mod, mod-lt}
use Rattle.bac_pairs.specs.Keys.{keyed, shuffled, place_of}

-- a row that is turned by the same number is the same row
same_row : (l m a : ℕ) → l < 161 → m < 161 → (l + a) % 161 ≡ (m + a) % 161 → l ≡ m
same_row l m a x y e =
    let one = div-add-mod (l + a) 161 in
    let other = div-add-mod (m + a) 161 in
    omega (arith, x, y, e, one, other)

same_column : (c d r s : ℕ) → r < 161 → s < 161 → c * 161 + r ≡ d * 161 + s → c ≡ d
same_column c d r s x y e = omega (arith, x, y, e)

same_turned : (c d r s : ℕ) → c ≡ d → c * 161 + r ≡ d * 161 + s → r ≡ s
same_turned c d r s f e = omega (arith, f, e)

row_within : (p : ℕ) → p < 25921 → p / 161 < 161
row_within p l = let one = div-add-mod p 161 in omega (arith, l, one)

pub shuffled_within : (turn : ℕ → ℕ) (p : ℕ) → shuffled turn p < 25921
shuffled_within turn p =
    let column : p % 161 < 161 = mod-lt p (omega arith) in
    let row : (p / 161 + turn (p % 161)) % 161 < 161 = mod-lt (p / 161 + turn (p % 161)) (omega arith) in
    omega (arith, column, row)

same_place : (p q : ℕ) → p / 161 ≡ q / 161 → p % 161 ≡ q % 161 → p ≡ q
same_place p q e f =
    let one = div-add-mod p 161 in
    let other = div-add-mod q 161 in
    omega (arith, e, f, one, other)

pub shuffled_apart : (turn : ℕ → ℕ) (p q : ℕ) → p < 25921 → q < 25921 → shuffled turn p ≡ shuffled turn q → p ≡ q
shuffled_apart turn p q x y e = same_place p q rows columns
  where
    columns : p % 161 ≡ q % 161
    columns = same_column (p % 161) (q % 161) _ _ (mod-lt (p / 161 + turn (p % 161)) (omega arith)) (mod-lt (q / 161 + turn (q % 161)) (omega arith)) e

    turned : (p / 161 + turn (p % 161)) % 161 ≡ (q / 161 + turn (q % 161)) % 161
    turned = same_turned (p % 161) (q % 161) _ _ columns e

    rows : p / 161 ≡ q / 161
    rows =
        same_row (p / 161) (q / 161) (turn (p % 161)) (row_within p x) (row_within q y)
        (turned ∙ ap (λ (c : ℕ). (q / 161 + turn c) % 161) (sym columns))

-- so two shares that have one place are equal modulo the number of places
pub place_apart : (key : List ℕ) (s t : ℕ) → place_of key s ≡ place_of key t → s % 25921 ≡ t % 25921
place_apart key s t e =
    shuffled_apart (keyed key 0) _ _ (mod-lt s (omega arith)) (mod-lt t (omega arith))
    (shuffled_apart (keyed key 1) _ _ (shuffled_within (keyed key 0) _) (shuffled_within (keyed key 0) _)
    (shuffled_apart (keyed key 2) _ _ (shuffled_within (keyed key 1) _) (shuffled_within (keyed key 1) _)
    (shuffled_apart (keyed key 3) _ _ (shuffled_within (keyed key 2) _) (shuffled_within (keyed key 2) _) e)))
