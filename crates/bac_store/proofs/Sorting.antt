-- What sorting an object's properties means for the object.
use Rattle.std.proofs.Common.{◌≡◌, ◌≢◌, ◌⊎◌, inl, inr, ◌∙◌, ◌+◌, set, get_or, ℕ, ◌<◌, ◌≤◌, Bool, true, false, List, length, map, refl, sym, subst, ap, arith}
use Rattle.std.specs.Bool.{IsTrue}
use Rattle.std.specs.List.{All, AllPairs}
use Rattle.std.specs.List.Sorted.{IsPermutation}
use Rattle.std.proofs.lemmas.Bool.{cases_lt}
use Rattle.std.proofs.lemmas.Grind.{get_or-set_at}
use Rattle.std.proofs.lemmas.List.{get_or-set_other, get_or_default}
use Rattle.std.proofs.lemmas.List.Elements.{All-map}
use Rattle.std.proofs.lemmas.List.Sorted.{IsPermutation-map, IsPermutation-sym, All-permutation}
use Rattle.bac_value.specs.Value.{characters}
use Rattle.bac_value.specs.Writing.{value_spelling}
use Rattle.bac_store.specs.declared.object.Property as listed
use Rattle.bac_store.specs.declared.object.Object as thing
use Rattle.bac_store.specs.Limits.{VALUE_LIMIT}
use Rattle.bac_store.specs.declared.rule.Rule.{Rule}
use Rattle.bac_store.specs.Objects.{IsRightBy, is_id_by, is_right_file, is_property_by}
use Rattle.bac_store.specs.Ordered.{IsSorting, SortsObject}
use Rattle.bac_store.specs.Views.{object_view, property_view}
use Rattle.bac_store.proofs.Distinct.{AllPairs-map, AllPairs-unmap, All-unmap, apart_from_rise, keys_permute}

number : listed.Property → ℕ
number p = p.number

module _ (r : Rule) (o : thing.Object) (sorted : List listed.Property) (moved : IsPermutation o.properties.items sorted) where
  pub listed_twice : (AllPairs (λ (p : listed.Property) (q : listed.Property). p.number ≢ q.number) sorted → ⊥) → IsRightBy r (object_view o) → ⊥
  unfolding number
  listed_twice twice right =
      twice (keys_permute number o.properties.items sorted moved (AllPairs-unmap property_view (λ p q. p.number ≢ q.number) o.properties.items right.distinct))

  pub sorts : (b : Bool) → IsTrue (is_id_by r (object_view o).id) → length (value_spelling (characters 0 (object_view o).name)) ≤ VALUE_LIMIT
      → IsTrue (is_right_file (object_view o).id.kind (object_view o).file)
      → AllPairs (λ (p : listed.Property) (q : listed.Property). p.number < q.number) sorted
      → (IsTrue b → All (λ p. IsTrue (is_property_by r (object_view o).id.kind (property_view p))) sorted)
      → (All (λ p. IsTrue (is_property_by r (object_view o).id.kind (property_view p))) sorted → IsTrue b)
      → SortsObject r b (object_view o) (record (object_view o) { properties = map property_view sorted })
  unfolding number
  sorts true id name file rise each right = record {
    reordered = record { id = refl; name = refl; properties = IsPermutation-map property_view o.properties.items sorted moved; file = refl };
    right = record {
      id = id;
      name = name;
      each = All-map (λ p. IsTrue (is_property_by r (object_view o).id.kind p)) property_view o.properties.items
          (All-permutation (λ p. IsTrue (is_property_by r (object_view o).id.kind (property_view p))) sorted o.properties.items
          (IsPermutation-sym o.properties.items sorted moved) (each refl));
      distinct = AllPairs-map property_view (λ p q. p.number ≢ q.number) o.properties.items
          (keys_permute number sorted o.properties.items (IsPermutation-sym o.properties.items sorted moved) (apart_from_rise number sorted rise));
      file = file;
    };
    rise = AllPairs-map property_view (λ p q. p.number < q.number) sorted rise;
  }
  sorts false id name file rise each right = λ whole.
      let t : false ≡ true = right (All-permutation (λ p. IsTrue (is_property_by r (object_view o).id.kind (property_view p))) o.properties.items sorted moved
      (All-unmap property_view (λ p. IsTrue (is_property_by r (object_view o).id.kind p)) o.properties.items whole.each)) in
      cc

-- one object more is sorted
module _ (r : Rule) (old xs : List thing.Object) (i : ℕ) (x y : thing.Object) (within : i < length xs) (kept : length xs ≡ length old)
    (done : (k : ℕ) (d : thing.Object) → k < i → IsSorting r (object_view (get_or old k d)) (object_view (get_or xs k d)))
    (left : (k : ℕ) (d : thing.Object) → i ≤ k → get_or xs k d ≡ get_or old k d) where
  pub done_more : IsSorting r (object_view (get_or xs i y)) (object_view x) → (k : ℕ) (d : thing.Object) → k < i + 1
      → IsSorting r (object_view (get_or old k d)) (object_view (get_or (set xs i x) k d))
  done_more here k d l = go (cases_lt k i)
    where
      go : (k < i) ⊎ (i ≤ k) → IsSorting r (object_view (get_or old k d)) (object_view (get_or (set xs i x) k d))
      go (inl b) = let ne : k ≢ i = omega arith in rw (get_or-set_other xs i k x d ne) (done k d b)
      go (inr b) =
          let same : k ≡ i = omega arith in
          let new : get_or (set xs i x) k d ≡ x = get_or-set_at xs i k x d same within in
          let was : get_or old k d ≡ get_or xs i y = sym (left k d b) ∙ ap (λ n. get_or xs n d) same ∙ get_or_default xs i d y within in
          subst (λ o. IsSorting r (object_view o) (object_view (get_or (set xs i x) k d))) (sym was)
          (subst (λ o. IsSorting r (object_view (get_or xs i y)) (object_view o)) (sym new) here)

  pub left_more : (k : ℕ) (d : thing.Object) → i + 1 ≤ k → get_or (set xs i x) k d ≡ get_or old k d
  left_more k d l = let ne : k ≢ i = omega arith in get_or-set_other xs i k x d ne ∙ left k d (omega arith)
