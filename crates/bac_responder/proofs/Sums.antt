-- A sum over the first elements of a list.
use Rattle.std.proofs.Common.{◌≡◌, ℕ, zero, suc, ◌+◌, ◌<◌, ◌≤◌, List, [], ◌∷◌, length, take, slice_get, Some, refl, ap, ◌∙◌, arith}
use Rattle.std.proofs.lemmas.List.{take_all}
use Rattle.bac_responder.specs.Kept.{sum_of}

module _ {A : Type 0} (f : A → ℕ) where
  sum_suc : (n : ℕ) (xs : List A) (x : A) → slice_get xs n ≡ Some x → sum_of f (take (suc n) xs) ≡ sum_of f (take n xs) + f x
  sum_suc n [] x e = absurd cc
  sum_suc zero (y ∷ xs) x e =
      let same : y ≡ x = cc in
      let here = ap f same in
      omega (arith, here)
  sum_suc (suc n) (y ∷ xs) x e = let again = sum_suc n xs x e in omega (arith, again)

  there : (n : ℕ) (xs : List A) → n < length xs → (x : A) × (slice_get xs n ≡ Some x)
  there n [] l = absurd (omega (arith, l))
  there zero (x ∷ xs) l = (x, refl)
  there (suc n) (x ∷ xs) l = there n xs (omega (arith, l))

  -- one more
  pub sum_next : (n k m r : ℕ) (xs : List A) → k ≡ sum_of f (take n xs) → n < length xs → ((x : A) → slice_get xs n ≡ Some x → m ≡ f x) → r ≡ k + m
      → r ≡ sum_of f (take (n + 1) xs)
  sum_next n k m r xs before within at is =
      let x = there n xs within in
      let more = sum_suc n xs x.0 x.1 in
      let here = at x.0 x.1 in
      let next : suc n ≡ n + 1 = omega arith in
      let same = ap (λ j. sum_of f (take j xs)) next in
      omega (arith, before, more, here, same, is)

  -- one more, of a part of the sum
  pub part_next : (n k m r : ℕ) (xs : List A) → k ≤ sum_of f (take n xs) → n < length xs → ((x : A) → slice_get xs n ≡ Some x → m ≡ f x) → r ≤ k + m
      → r ≤ sum_of f (take (n + 1) xs)
  part_next n k m r xs before within at is =
      let next = sum_next n (sum_of f (take n xs)) m (sum_of f (take n xs) + m) xs refl within at refl in
      omega (arith, before, next, is)

  -- all of them
  pub sum_all : (n k : ℕ) (xs : List A) → k ≡ sum_of f (take n xs) → length xs ≤ n → k ≡ sum_of f xs
  sum_all n k xs before past = before ∙ ap (λ (l : List A). sum_of f l) (take_all n xs past)
