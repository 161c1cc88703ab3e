-- Ascending lists.
use Rattle.std.proofs.Common.{ℕ, zero, suc, ◌+◌, ◌-◌, ◌<◌, List, length, get_or, subst, arith}
use Rattle.std.specs.List.{AllAdjacentBelow, AllPairs}

module _ {A : Type 0} (key : A → ℕ) (xs : List A) (up : AllAdjacentBelow (λ a b. key a < key b) xs (length xs)) where
  further : (k i : ℕ) (d : A) → i + suc k < length xs → key (get_or xs i d) < key (get_or xs (i + suc k) d)
  further zero i d l = up i d l
  further (suc k) i d l =
      let before : key (get_or xs i d) < key (get_or xs (i + suc k) d) = further k i d (omega arith) in
      let next : key (get_or xs (i + suc k) d) < key (get_or xs (i + suc k + 1) d) = up (i + suc k) d (omega arith) in
      subst (λ j. key (get_or xs i d) < key (get_or xs j d)) {x = i + suc k + 1} (omega arith) (omega arith)

  -- each element is below the next, and so below all later ones
  pub rising : AllPairs (λ a b. key a < key b) xs
  rising i j d l within = subst (λ m. key (get_or xs i d) < key (get_or xs m d)) {x = i + suc (j - i - 1)} (omega arith) (further (j - i - 1) i d (omega arith))
