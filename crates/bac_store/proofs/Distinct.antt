-- Lists whose keys all differ, in any order.
use Rattle.std.proofs.Common.{◌≡◌, ◌≢◌, ℕ, zero, suc, ◌+◌, ◌-◌, ◌<◌, ◌≤◌, Bool, true, false, eqb, List, [], ◌∷◌, length, map, get_or, Option}
use Rattle.std.proofs.Common.{Some, None, if◌then◌else◌, refl, sym, ap, subst, arith, ◌∙◌}
use Rattle.std.specs.List.{All, AllPairs, AllAdjacentBelow, Contains}
use Rattle.std.specs.List.Sorted.{IsNonDecreasingBy, IsPermutation}
use Rattle.std.proofs.lemmas.Bool.Decides.{nat_tests, Decides-eqb}
use Rattle.std.proofs.lemmas.List.{length-map, get_or-map, get_or_default}
use Rattle.std.proofs.lemmas.List.Elements.{All-nil, All-cons, All-head, All-tail}
use Rattle.std.proofs.lemmas.List.Sorted.{all_adjacent_more, IsPermutation-map, All-permutation, Contains-permutation}
use Rattle.std.proofs.lemmas.Map.Keys.{IsDistinct-IsPermutation}
use Rattle.std.proofs.lemmas.Map.Made.{AllPairs-from_IsDistinct, IsDistinct-from_AllPairs}
use Rattle.bac_store.specs.Stores.{first_that}

-- the element at a place
pub element : {A : Type 0} (xs : List A) (i : ℕ) → i < length xs → A
element [] i l = absurd (omega arith)
element (x ∷ xs) zero l = x
element (x ∷ xs) (suc i) l = element xs i (omega arith)

module _ {A B : Type 0} (f : A → B) where
  pub AllPairs-map : (R : B → B → Type 0) (xs : List A) → AllPairs (λ a b. R (f a) (f b)) xs → AllPairs R (map f xs)
  AllPairs-map R xs all i j d l within =
      let inside : j < length xs = omega (arith, length-map xs f) in
      let before : i < length xs = omega arith in
      let x = element xs j inside in
      rw (get_or-map f xs i x d before, get_or-map f xs j x d inside) (all i j x l inside)

  pub AllPairs-unmap : (R : B → B → Type 0) (xs : List A) → AllPairs R (map f xs) → AllPairs (λ a b. R (f a) (f b)) xs
  AllPairs-unmap R xs all i j d l within =
      let before : i < length xs = omega arith in
      let inside : j < length (map f xs) = omega (arith, length-map xs f) in
      rw (← get_or-map f xs i d (f d) before, ← get_or-map f xs j d (f d) within) (all i j (f d) l inside)

  pub All-unmap : (P : B → Type 0) (xs : List A) → All P (map f xs) → All (λ a. P (f a)) xs
  All-unmap P xs all i d l =
      let inside : i < length (map f xs) = omega (arith, length-map xs f) in
      rw (← get_or-map f xs i d (f d) l) (all i (f d) inside)

flips : (x y : ℕ) → eqb x y ≡ eqb y x
flips x y = grind (arith, nat_tests)

numbers_permute : (ns ms : List ℕ) → IsPermutation ns ms → AllPairs (λ a b. a ≢ b) ns → AllPairs (λ a b. a ≢ b) ms
numbers_permute ns ms moved apart = AllPairs-from_IsDistinct Decides-eqb ms
    (IsDistinct-IsPermutation eqb flips ns ms moved (IsDistinct-from_AllPairs Decides-eqb ns apart))

module _ {A : Type 0} (key : A → ℕ) where
  pub keys_permute : (xs ys : List A) → IsPermutation xs ys → AllPairs (λ a b. key a ≢ key b) xs → AllPairs (λ a b. key a ≢ key b) ys
  keys_permute xs ys moved apart =
      AllPairs-unmap key (λ a b. a ≢ b) ys (numbers_permute (map key xs) (map key ys) (IsPermutation-map key xs ys moved)
      (AllPairs-map key (λ a b. a ≢ b) xs apart))

  pub apart_from_rise : (xs : List A) → AllPairs (λ a b. key a < key b) xs → AllPairs (λ a b. key a ≢ key b) xs
  apart_from_rise xs rise i j d l within e = omega (arith, rise i j d l within, e)

  -- neighbours with the same key, and the next step of an ascending list
  pub equal_neighbours : (xs : List A) (at : ℕ) (x y : A) → 1 ≤ at → at < length xs → key (get_or xs (at - 1) x) ≡ key (get_or xs at y)
      → AllPairs (λ a b. key a ≢ key b) xs → ⊥
  equal_neighbours xs at x y first within e apart = apart (at - 1) at x (omega arith) within (e ∙ ap key (get_or_default xs at y x within))

  pub adjacent_more : (xs : List A) (at : ℕ) (x y : A) → 1 ≤ at → at < length xs → IsNonDecreasingBy key xs → key (get_or xs (at - 1) x) ≢ key (get_or xs at y)
      → AllAdjacentBelow (λ a b. key a < key b) xs at → AllAdjacentBelow (λ a b. key a < key b) xs (at + 1)
  adjacent_more xs at x y first within up ne old = all_adjacent_more xs (λ a b. key a < key b) at first old (λ d.
      let le : key (get_or xs (at - 1) d) ≤ key (get_or xs at d) = up (at - 1) at d (omega arith) within in
      let ne' : key (get_or xs (at - 1) d) ≢ key (get_or xs at d) = λ e. ne
      (ap key (get_or_default xs (at - 1) x d (omega arith)) ∙ e ∙ ap key (get_or_default xs at d y within)) in
      omega arith)

-- ---- a look-up in a list and in its permutation

module _ {A : Type 0} (test : A → Bool) where
  none_first : (xs : List A) → first_that test xs ≡ None → All (λ x. test x ≡ false) xs
  none_first [] e = All-nil (λ x. test x ≡ false)
  none_first (x ∷ xs) e = go (test x) refl e (none_first xs)
    where
      go : (b : Bool) → test x ≡ b → (if b then Some x else first_that test xs) ≡ None → (first_that test xs ≡ None → All (λ y. test y ≡ false) xs)
          → All (λ y. test y ≡ false) (x ∷ xs)
      go true t e rest = cc
      go false t e rest = All-cons (λ y. test y ≡ false) x xs t (rest e)

  pub first_none : (xs : List A) → All (λ x. test x ≡ false) xs → first_that test xs ≡ None
  first_none [] h = refl
  first_none (x ∷ xs) h = rw (All-head (λ y. test y ≡ false) x xs h) (first_none xs (All-tail (λ y. test y ≡ false) x xs h))

  pub some_first : (xs : List A) (x : A) → first_that test xs ≡ Some x → Contains xs x × (test x ≡ true)
  some_first [] x e = cc
  some_first (y ∷ xs) x e = go (test y) refl e (some_first xs x)
    where
      go : (b : Bool) → test y ≡ b → (if b then Some y else first_that test xs) ≡ Some x
          → (first_that test xs ≡ Some x → Contains xs x × (test x ≡ true)) → Contains (y ∷ xs) x × (test x ≡ true)
      go true t e rest = let same : y ≡ x = cc in ((0, omega arith, same), subst (λ z. test z ≡ true) same t)
      go false t e rest = let r = rest e in ((suc r.0.0, omega (arith, r.0.1), r.0.2), r.1)

  pub first_some : (xs : List A) (x : A) → AllPairs (λ a b. test a ≡ true → test b ≡ true → ⊥) xs → Contains xs x → test x ≡ true → first_that test xs ≡ Some x
  first_some [] x one c t = absurd (omega (arith, c.1))
  first_some (y ∷ xs) x one c t = go c.0 c.1 c.2 (test y) refl (first_some xs x (λ i j d l w. one (suc i) (suc j) d (omega arith) (omega arith)))
    where
      go : (k : ℕ) → k < length (y ∷ xs) → get_or (y ∷ xs) k x ≡ x → (b : Bool) → test y ≡ b
          → (Contains xs x → test x ≡ true → first_that test xs ≡ Some x) → (if b then Some y else first_that test xs) ≡ Some x
      go zero l e true u rest = ap Some e
      go zero l e false u rest = let v : test x ≡ false = subst (λ z. test z ≡ false) e u in cc
      go (suc k) l e true u rest = absurd (one 0 (suc k) x (omega arith) l u (subst (λ z. test z ≡ true) (sym e) t))
      go (suc k) l e false u rest = rest (k, omega arith, e) t

  pub first_permuted : (xs ys : List A) → AllPairs (λ a b. test a ≡ true → test b ≡ true → ⊥) ys → IsPermutation xs ys → first_that test ys ≡ first_that test xs
  first_permuted xs ys one moved = go (first_that test xs) refl
    where
      go : (o : Option A) → first_that test xs ≡ o → first_that test ys ≡ o
      go None e = first_none ys (All-permutation (λ x. test x ≡ false) xs ys moved (none_first xs e))
      go (Some x) e = let r = some_first xs x e in first_some ys x one (Contains-permutation xs ys x moved r.0) r.1
