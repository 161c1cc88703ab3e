-- Members of lists.
use Rattle.std.proofs.Common.{◌≡◌, ℕ, zero, suc, ◌+◌, ◌<◌, Bool, true, false, List, [], ◌∷◌, ◌++◌, length, take, Some, slice_get}
use Rattle.std.proofs.Common.{slice_set, if◌then◌else◌, refl, ap, ◌∙◌, arith}
use Rattle.bac_protocol.specs.Transaction.{Key}
use Rattle.bac_protocol.specs.World.{same_key}
use Rattle.bac_world.specs.World.{Copy, count_of, later}

pub get_set : {A : Type 0} (xs : List A) (i : ℕ) (x : A) → i < length xs → slice_get (slice_set xs i x) i ≡ Some x
get_set [] i x h = absurd (omega (arith, h))
get_set (y ∷ xs) zero x h = refl
get_set (y ∷ xs) (suc i) x h = get_set xs i x (omega arith)

pub get_set_other : {A : Type 0} (xs : List A) (i j : ℕ) (x : A) → (j ≡ i → ⊥) → slice_get (slice_set xs i x) j ≡ slice_get xs j
get_set_other [] i j x ne = refl
get_set_other (y ∷ xs) zero zero x ne = absurd (ne refl)
get_set_other (y ∷ xs) zero (suc j) x ne = refl
get_set_other (y ∷ xs) (suc i) zero x ne = refl
get_set_other (y ∷ xs) (suc i) (suc j) x ne = get_set_other xs i j x (λ e. ne (ap suc e))

pub get_push : {A : Type 0} (xs : List A) (x : A) → slice_get (xs ++ x ∷ []) (length xs) ≡ Some x
get_push [] x = refl
get_push (y ∷ xs) x = get_push xs x

pub get_push_other : {A : Type 0} (xs : List A) (x : A) (i : ℕ) → (i ≡ length xs → ⊥) → slice_get (xs ++ x ∷ []) i ≡ slice_get xs i
get_push_other [] x zero ne = absurd (ne refl)
get_push_other [] x (suc i) ne = refl
get_push_other (y ∷ xs) x zero ne = refl
get_push_other (y ∷ xs) x (suc i) ne = get_push_other xs x i (λ e. ne (ap suc e))

-- How many copies are a transaction's.

pub count_push : (key : Key) (copies : List Copy) (c : Copy)
    → count_of key (copies ++ c ∷ []) ≡ (if same_key c.key key then count_of key copies + 1 else count_of key copies)
count_push key [] c = go (same_key c.key key)
  where
    go : (b : Bool) → (if b then suc 0 else 0) ≡ (if b then 0 + 1 else 0)
    go true = refl
    go false = refl
count_push key (d ∷ copies) c = go (same_key d.key key) (same_key c.key key) (count_push key copies c)
  where
    go : (a b : Bool) → count_of key (copies ++ c ∷ []) ≡ (if b then count_of key copies + 1 else count_of key copies)
        → (if a then suc (count_of key (copies ++ c ∷ [])) else count_of key (copies ++ c ∷ []))
        ≡ (if b then (if a then suc (count_of key copies) else count_of key copies) + 1 else (if a then suc (count_of key copies) else count_of key copies))
    go true true e = omega arith
    go true false e = ap suc e
    go false true e = e
    go false false e = e

-- those before a copy of the transaction, the copy itself, and those after it are all
pub count_split : (key : Key) (number : ℕ) (copies : List Copy) (c : Copy) → slice_get copies number ≡ Some c → same_key c.key key ≡ true
    → count_of key copies ≡ count_of key (take number copies) + 1 + later key number copies
count_split key number [] c at is = absurd cc
count_split key zero (d ∷ copies) c at is =
    let same : d ≡ c = cc in
    let first : same_key d.key key ≡ true = ap (λ (e : Copy). same_key e.key key) same ∙ is in
    ap (λ b. if b then suc (count_of key copies) else count_of key copies) first ∙ one (count_of key copies)
  where
    one : (n : ℕ) → suc n ≡ 0 + 1 + n
    one n = omega arith
count_split key (suc number) (d ∷ copies) c at is = go (same_key d.key key) (count_split key number copies c at is)
  where
    go : (b : Bool) → count_of key copies ≡ count_of key (take number copies) + 1 + later key number copies
        → (if b then suc (count_of key copies) else count_of key copies)
        ≡ (if b then suc (count_of key (take number copies)) else count_of key (take number copies)) + 1 + later key number copies
    go true e = omega arith
    go false e = e
