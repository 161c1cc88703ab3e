-- Equality of lists whose elements are seen through a view.
use Rattle.std.specs.Bool.{IsTrue}
use Rattle.std.specs.Prelude.{◌↔◌, MatchBool}
use Rattle.std.proofs.Common.{◌≡◌, Bool, true, false, ℕ, suc, ◌+◌, ◌<◌, ◌≤◌, ◌⊎◌, inl, inr, List, [], ◌∷◌, length, map, get_or, refl, ap, sym, ◌∙◌, arith}
use Rattle.std.proofs.Math.ListN.{get_or-map}
use Rattle.std.proofs.lemmas.List.{length-map, get_or_default}
use Rattle.std.proofs.lemmas.Bool.{cases_lt}

module _ {A B : Type 0} (view : A → B) where
  -- this many places are equal
  abbrev pub AreSameUpTo : ℕ → List A → List A → Type 0
  AreSameUpTo at xs ys = (j : ℕ) (d : A) → j < at → view (get_or xs j d) ≡ view (get_or ys j d)

  pub same_lists : (xs ys : List A) → length xs ≡ length ys → AreSameUpTo (length xs) xs ys → map view xs ≡ map view ys
  same_lists [] [] count each = refl
  same_lists [] (y ∷ ys) count each = absurd (omega (arith, count))
  same_lists (x ∷ xs) [] count each = absurd (omega (arith, count))
  same_lists (x ∷ xs) (y ∷ ys) count each =
      let here : view x ≡ view y = each 0 x (omega arith) in
      let rest = same_lists xs ys (omega (arith, count)) (λ j d l. each (suc j) d (omega arith)) in
      λ i. here i ∷ rest i

  pub same_items : (xs ys : List A) (at : ℕ) (x y : A) → at < length ys → map view xs ≡ map view ys
      → view (get_or xs at x) ≡ view (get_or ys at y)
  same_items xs ys at x y within same =
      sym (get_or-map view xs at x) ∙ ap (λ l. get_or l at (view x)) same ∙ get_or-map view ys at x ∙ ap view (get_or_default ys at x y within)

  pub same_count : (xs ys : List A) → map view xs ≡ map view ys → length xs ≡ length ys
  same_count xs ys same = sym (length-map xs view) ∙ ap length same ∙ length-map ys view

  pub same_more : (xs ys : List A) (at : ℕ) (x y : A) → at < length xs → at < length ys → view (get_or xs at x) ≡ view (get_or ys at y)
      → AreSameUpTo at xs ys → AreSameUpTo (at + 1) xs ys
  same_more xs ys at x y within inside here each j d l = go (cases_lt j at)
    where
      go : (j < at) ⊎ (at ≤ j) → view (get_or xs j d) ≡ view (get_or ys j d)
      go (inl before) = each j d before
      go (inr after) =
          let same : j ≡ at = omega arith in
          ap (λ n. view (get_or xs n d)) same ∙ ap view (get_or_default xs at d x within) ∙ here
          ∙ ap view (get_or_default ys at y d inside) ∙ ap (λ n. view (get_or ys n d)) (sym same)

-- if one case is true and the other is its opposite, the result decides which
pub decided : {A : Type 0} (b : Bool) → MatchBool b A (A → ⊥) → IsTrue b ↔ A
decided true holds = (λ t. holds, λ a. refl)
decided false other = (λ never. absurd cc, λ a. absurd (other a))
