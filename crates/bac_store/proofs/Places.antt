-- What a binary search finds in an ascending list, and what the list has there.
use Rattle.std.proofs.Common.{◌≡◌, ℕ, zero, suc, ◌<◌, ◌≤◌, ◌≢◌, Bool, false, ◌==◌, List, [], ◌∷◌, length, map, get_or, set}
use Rattle.std.proofs.Common.{Some, None, Result, Ok, Err, ◌∙◌, refl, sym, ap, arith}
use Rattle.std.specs.List.{All, AllPairs, slice_get}
use Rattle.std.specs.Option.{IsSome}
use Rattle.std.specs.Result.{result_ok}
use Rattle.std.specs.List.Sorted.{IsSearchInRange, IsBinarySearchResult, IsNonDecreasingBy}
use Rattle.std.specs.Ordering.{nat_cmp, ordering_index}
use Rattle.std.proofs.lemmas.Cmp.{ranked}
use Rattle.std.proofs.lemmas.Bool.Decides.{nat_tests}
use Rattle.std.proofs.lemmas.List.Elements.{All-head, All-tail}
use Rattle.std.proofs.lemmas.List.{length-map}
use Rattle.std.proofs.Math.ListN.{get_or-map}
use Rattle.bac_store.specs.Lookups.{IsOnly, IsPlaceOf}
use Rattle.bac_store.specs.Stores.{first_that}
use Rattle.bac_store.specs.Changes.{where_that}

module _ {A B : Type 0} (view : A → B) (test : B → Bool) where
  only_tail : (x : A) (xs : List A) (i : ℕ) → IsOnly view test (x ∷ xs) (suc i) → IsOnly view test xs i
  only_tail x xs i o = record {
    within = omega (arith, o.within);
    passes = λ d. o.passes d;
    others = λ j d l ne. o.others (suc j) d (omega arith) (λ e. ne (omega arith));
  }

  only_head : (x : A) (xs : List A) (i : ℕ) (d : A) → IsOnly view test (x ∷ xs) (suc i) → test (view x) ≡ false
  only_head x xs i d o = o.others 0 d (omega arith) (λ e. absurd (omega arith))

  only_rest : (x : A) (xs : List A) → IsOnly view test (x ∷ xs) zero → All (λ y. test (view y) ≡ false) xs
  only_rest x xs o j d l = o.others (suc j) d (omega arith) (λ e. absurd (omega arith))

  pub first_that-none : (xs : List A) → All (λ x. test (view x) ≡ false) xs → first_that test (map view xs) ≡ None
  first_that-none [] h = refl
  first_that-none (x ∷ xs) h = rw (All-head (λ y. test (view y) ≡ false) x xs h) (first_that-none xs (All-tail (λ y. test (view y) ≡ false) x xs h))

  pub first_that-only : (xs : List A) (i : ℕ) (d : A) → IsOnly view test xs i → first_that test (map view xs) ≡ Some (view (get_or xs i d))
  first_that-only [] i d o = absurd (omega (arith, o.within))
  first_that-only (x ∷ xs) zero d o = rw (o.passes d) refl
  first_that-only (x ∷ xs) (suc i) d o = rw (only_head x xs i d o) (first_that-only xs i d (only_tail x xs i o))

  -- the same without a default
  pub first_that-place : (xs : List A) (i : ℕ) → IsOnly view test xs i
      → IsSome (slice_get (map view xs) i) × (first_that test (map view xs) ≡ slice_get (map view xs) i)
  first_that-place [] i o = absurd (omega (arith, o.within))
  first_that-place (x ∷ xs) zero o = (refl, rw (o.passes x) refl)
  first_that-place (x ∷ xs) (suc i) o = rw (only_head x xs i x o) (first_that-place xs i (only_tail x xs i o))

  pub where_that-none : (change : B → B) (xs : List A) → All (λ x. test (view x) ≡ false) xs → where_that test change (map view xs) ≡ map view xs
  where_that-none change [] h = refl
  where_that-none change (x ∷ xs) h = rw (All-head (λ y. test (view y) ≡ false) x xs h)
      (ap (λ ys. view x ∷ ys) (where_that-none change xs (All-tail (λ y. test (view y) ≡ false) x xs h)))

  pub where_that-only : (change : B → B) (xs : List A) (i : ℕ) (d : A) → IsOnly view test xs i
      → where_that test change (map view xs) ≡ set (map view xs) i (change (view (get_or xs i d)))
  where_that-only change [] i d o = absurd (omega (arith, o.within))
  where_that-only change (x ∷ xs) zero d o = rw (o.passes d) (ap (λ ys. change (view x) ∷ ys) (where_that-none change xs (only_rest x xs o)))
  where_that-only change (x ∷ xs) (suc i) d o = rw (only_head x xs i d o) (ap (λ ys. view x ∷ ys) (where_that-only change xs i d (only_tail x xs i o)))

module _ {A B : Type 0} (view : A → B) (key : B → ℕ) (test : B → Bool) (k : ℕ) (xs : List A)
    (rise : AllPairs (λ a b. key a < key b) (map view xs)) (tells : All (λ x. test (view x) ≡ (key (view x) == k)) xs) where
  rises : (i j : ℕ) (d : A) → i < j → j < length xs → key (view (get_or xs i d)) < key (view (get_or xs j d))
  rises i j d l within =
      rw (← get_or-map view xs i d, ← get_or-map view xs j d) (rise i j (view d) l (simp length-map within))

  comparisons_rise : IsNonDecreasingBy (λ x. ordering_index (nat_cmp (key (view x)) k)) xs
  comparisons_rise i j d le within =
      let up : key (view (get_or xs i d)) ≤ key (view (get_or xs j d)) =
      grind (arith, rises i j d, λ (same : i ≡ j). ap (λ n. key (view (get_or xs n d))) same) in
      grind (arith, nat_tests)

  -- a binary search by key ends at the only place with the key, or finds that there is none
  pub placed : (r : Result ℕ ℕ) → IsSearchInRange r (length xs) → IsBinarySearchResult (λ x. nat_cmp (key (view x)) k) xs r
      → IsPlaceOf view test xs (result_ok r)
  placed (Ok at) within equal = record {
    within = within;
    passes = λ d. let e : key (view (get_or xs at d)) ≡ k = ranked _ k _ (sym (equal d)) in tells at d within ∙ grind (arith, nat_tests);
    others = λ j d l ne.
        let e : key (view (get_or xs at d)) ≡ k = ranked _ k _ (sym (equal d)) in
        tells j d l ∙ grind (arith, nat_tests, rises j at d, rises at j d);
  }
  placed (Err at) within parted = λ j d l.
      let parts = parted comparisons_rise in
      let apart : key (view (get_or xs j d)) ≢ k = grind (
        arith,
        nat_tests,
        λ (b : j < at). ranked _ k _ (sym (parts.0 j d (omega arith) b)),
        λ
            (b : at ≤ j). ranked _ k _ (sym (parts.1 j d b l)),
      ) in
      tells j d l ∙ grind (arith, nat_tests)

pub slice_get-map : {A B : Type 0} (view : A → B) (xs : List A) (i : ℕ) (d : A) → i < length xs → slice_get (map view xs) i ≡ Some (view (get_or xs i d))
slice_get-map view [] i d l = absurd (omega arith)
slice_get-map view (x ∷ xs) zero d l = refl
slice_get-map view (x ∷ xs) (suc i) d l = slice_get-map view xs i d (omega arith)

pub slice_get-within : {A : Type 0} (xs : List A) (i : ℕ) → IsSome (slice_get xs i) → i < length xs
slice_get-within [] i is = cc
slice_get-within (x ∷ xs) zero is = omega arith
slice_get-within (x ∷ xs) (suc i) is = omega (arith, slice_get-within xs i is)
