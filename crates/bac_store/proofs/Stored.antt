-- Objects that were sorted are a store.
use Rattle.std.proofs.Common.{◌≡◌, ◌≢◌, ℕ, suc, ◌+◌, ◌*◌, ◌^◌, ◌<◌, ◌≤◌, Bool, true, false, List, [], ◌∷◌, length, map, get_or}
use Rattle.std.proofs.Common.{Option, Some, None, Result, Ok, Err, MatchResult, refl, sym, ap, subst, arith}
use Rattle.std.specs.Bool.{IsTrue}
use Rattle.std.specs.List.{All, AllPairs}
use Rattle.std.specs.List.Sorted.{IsPermutation}
use Rattle.std.specs.Option.{IfSome}
use Rattle.std.specs.Result.{IsErrAnd}
use Rattle.bac_store.specs.declared.store_fault.StoreFault.{StoreFault}
use Rattle.bac_store.specs.declared.store_fault.StoreFault.TheVariants as fault
use Rattle.std.proofs.lemmas.Bool.Decides.{nat_tests}
use Rattle.std.proofs.lemmas.List.Elements.{All-map}
use Rattle.std.proofs.lemmas.List.Sorted.{IsPermutation-map, IsPermutation-sym, All-permutation}
use Rattle.bac_value.specs.declared.value.ObjectIdentifier.{ObjectIdentifier}
use Rattle.bac_value.specs.Value.{ObjectId}
use Rattle.bac_value.specs.Views.{object_identifier_view}
use Rattle.bac_store.specs.declared.object.Object as thing
use Rattle.bac_store.specs.Kept.{object_number, IsInOrder, IsKept, IsShort}
use Rattle.bac_store.specs.Limits.{FILE_LIMIT}
use Rattle.bac_store.specs.Made.{IsBadBy, IsGoodBy, IsMadeBy, IsRefusedBy}
use Rattle.bac_store.specs.Objects.{AreDistinct, AreLike, IsLike, IsRightBy, IsStoreOf, is_right_file, is_property_by}
use Rattle.bac_store.specs.declared.rule.Rule.{Rule}
use Rattle.bac_store.specs.declared.rule.Rule.TheVariants as rule
use Rattle.bac_store.specs.Ordered.{AreSorted, IsSorting}
use Rattle.bac_store.specs.Stores.{Store, File, Object, Property, is_number, is_object, is_same, object_in}
use Rattle.bac_store.specs.Views.{object_view}
use Rattle.bac_store.proofs.Distinct.{AllPairs-map, AllPairs-unmap, apart_from_rise, first_permuted, keys_permute}
use Rattle.bac_store.proofs.PlanLaws.{same_numbers}
use Rattle.bac_store.proofs.ValueData.{fits_name}

abbrev number : thing.Object → ℕ
number o = object_number (object_identifier_view o.id)

same_parts : (a b c d : ℕ) → b < 2 ^ 22 → d < 2 ^ 22 → a * 2 ^ 22 + b ≡ c * 2 ^ 22 + d → record { kind : a ≡ c; instance : b ≡ d }
same_parts a b c d p q e = record { kind = omega arith; instance = omega arith }

same_id : (a b : ObjectIdentifier) → object_number (object_identifier_view a) ≡ object_number (object_identifier_view b)
    → object_identifier_view a ≡ object_identifier_view b
same_id a b e =
    let p = same_parts a.kind a.instance b.kind b.instance a.instance_fits b.instance_fits e in
    λ i. record { kind = p.kind i; instance = p.instance i }

-- ---- valid objects satisfy the invariant

right_is_short : (r : Rule) (k : ℕ) (p : Property) → IsTrue (is_property_by r k p) → IsShort p
right_is_short rule.Profile k p h = grind (arith, nat_tests)
right_is_short rule.Described k p h = grind (arith, nat_tests)

right_file_fits : (k : ℕ) (f : Option File) → IsTrue (is_right_file k f) → IfSome f (λ g. length g.octets ≤ FILE_LIMIT)
right_file_fits k None h = tt
right_file_fits k (Some f) h = grind (arith, nat_tests)

All-weaker : {A : Type 0} (P Q : A → Type 0) → ((x : A) → P x → Q x) → (xs : List A) → All P xs → All Q xs
All-weaker P Q f xs all i d l = f (get_or xs i d) (all i d l)

kept_from_sorting : (r : Rule) (old : Object) (new : thing.Object) → IsSorting r old (object_view new) → IsKept (object_view new)
kept_from_sorting r old new s = record {
  kind_fits = new.id.kind_fits;
  instance_fits = new.id.instance_fits;
  named = let short = fits_name old.name s.right.name in rw s.reordered.name (omega arith);
  rise = s.rise;
  short = All-permutation IsShort old.properties (object_view new).properties s.reordered.properties
      (All-weaker (λ p. IsTrue (is_property_by r old.id.kind p)) IsShort (right_is_short r old.id.kind) old.properties s.right.each);
  file_fits = subst (λ f. IfSome f (λ g. length g.octets ≤ FILE_LIMIT)) (sym s.reordered.file) (right_file_fits old.id.kind old.file s.right.file);
}

-- ---- look-ups

pub one_number : (m : ℕ) (ps : List Property) → AllPairs (λ p q. p.number < q.number) ps → AllPairs (λ p q. is_number m p ≡ true → is_number m q ≡ true → ⊥) ps
one_number m ps rise i j d l within a b = grind (arith, nat_tests, rise i j d l within)

pub one_object : (id : ObjectId) (os : List Object) → AllPairs (λ a b. object_number a.id < object_number b.id) os
    → AllPairs (λ a b. is_object id a ≡ true → is_object id b ≡ true → ⊥) os
one_object id os rise i j d l within a b = same_numbers id (get_or os i d).id (get_or os j d).id a b (rise i j d l within)

like_from_sorting : (r : Rule) (old new : Object) → IsSorting r old new → IsLike new old
like_from_sorting r old new s = record {
  id = s.reordered.id;
  name = s.reordered.name;
  listed = λ n. first_permuted (is_number n) old.properties new.properties (one_number n new.properties s.rise) s.reordered.properties;
  file = s.reordered.file;
}

likes : (r : Rule) (id : ObjectId) (olds news : List thing.Object) → length news ≡ length olds
    → ((i : ℕ) (d : thing.Object) → i < length olds → IsSorting r (object_view (get_or olds i d)) (object_view (get_or news i d)))
    → AreLike (object_in (map object_view news) id) (object_in (map object_view olds) id)
likes r id [] [] same each = tt
likes r id [] (n ∷ news) same each = absurd (omega arith)
likes r id (o ∷ olds) [] same each = absurd (omega arith)
likes r id (o ∷ olds) (n ∷ news) same each =
    go (is_object id (object_view o)) (ap (is_same id) head.reordered.id) refl (likes r id olds news (omega arith) (λ i d l. each (suc i) d (omega arith)))
  where
    head : IsSorting r (object_view o) (object_view n)
    head = each 0 o (omega arith)

    go : (b : Bool) → is_object id (object_view n) ≡ is_object id (object_view o) → is_object id (object_view o) ≡ b
        → AreLike (object_in (map object_view news) id) (object_in (map object_view olds) id)
        → AreLike (object_in (map object_view (n ∷ news)) id) (object_in (map object_view (o ∷ olds)) id)
    go true same e rest = rw (same, e) (like_from_sorting r (object_view o) (object_view n) head)
    go false same e rest = rw (same, e) rest

-- ---- all of it

module _ (r : Rule) (old sorted : List thing.Object) (moved : IsPermutation old sorted) where
  pub not_distinct : (AllPairs (λ a b. object_number (object_identifier_view a.id) ≢ object_number (object_identifier_view b.id)) sorted → ⊥)
      → AreDistinct (map object_view old) → ⊥
  not_distinct twice apart =
      let ids = AllPairs-unmap object_view (λ a b. a.id ≢ b.id) old apart in
      twice (keys_permute number old sorted moved (λ i j d l within e. ids i j d l within (same_id (get_or old i d).id (get_or old j d).id e)))

  distinct : AllPairs (λ a b. object_number (object_identifier_view a.id) < object_number (object_identifier_view b.id)) sorted
      → AreDistinct (map object_view old)
  distinct rise =
      let numbers = keys_permute number sorted old (IsPermutation-sym old sorted moved) (apart_from_rise number sorted rise) in
      AllPairs-map object_view (λ a b. a.id ≢ b.id) old (λ i j d l within e. numbers i j d l within (ap object_number e))

  pub bad : AllPairs (λ a b. object_number (object_identifier_view a.id) < object_number (object_identifier_view b.id)) sorted
      → (All (IsRightBy r) (map object_view sorted) → ⊥) → IsBadBy r (map object_view old)
  bad rise wrong = record {
    distinct = distinct rise;
    wrong = λ all. wrong (All-permutation (IsRightBy r) (map object_view old) (map object_view sorted) (IsPermutation-map object_view old sorted moved) all);
  }

  module _ (new : List thing.Object) (rise : AllPairs (λ a b. object_number (object_identifier_view a.id) < object_number (object_identifier_view b.id)) sorted)
      (all : AreSorted r sorted new) where
    pub good : IsGoodBy r (map object_view old)
    good = record {
      distinct = distinct rise;
      right = All-permutation (IsRightBy r) (map object_view sorted) (map object_view old)
          (IsPermutation-sym (map object_view old) (map object_view sorted) (IsPermutation-map object_view old sorted moved))
          (All-map (IsRightBy r) object_view sorted (λ i d l. (all.each i d l).right));
    }

    pub in_order : IsInOrder (map object_view new)
    in_order = record {
      rise = AllPairs-map object_view (λ a b. object_number a.id < object_number b.id) new (λ i j d l within.
          let inside : j < length sorted = omega (arith, all.same_length) in
          let before : i < length sorted = omega arith in
          subst (λ x. object_number x < object_number (object_view (get_or new j d)).id) (sym (all.each i d before).reordered.id)
          (subst (λ x. object_number (object_view (get_or sorted i d)).id < object_number x) (sym (all.each j d inside).reordered.id) (rise i j d l inside)));
      each = All-map IsKept object_view new (λ i d l.
          let inside : i < length sorted = omega (arith, all.same_length) in
          kept_from_sorting r (object_view (get_or sorted i d)) (get_or new i d) (all.each i d inside));
    }

    store_of : IsStoreOf (map object_view old) (map object_view new)
    store_of id =
        let one = one_object id (map object_view sorted) (AllPairs-map object_view (λ a b. object_number a.id < object_number b.id) sorted rise) in
        let same = first_permuted (is_object id) (map object_view old) (map object_view sorted) one (IsPermutation-map object_view old sorted moved) in
        subst (AreLike (object_in (map object_view new) id)) same (likes r id sorted new all.same_length all.each)

    pub made : IsMadeBy r (map object_view old) (map object_view new)
    made = record { distinct = good.distinct; right = good.right; store = store_of }

-- a failed allocation is reported last
pub refused : (rule : Rule) (objects : List Object) (r : Result Store StoreFault) → IsErrAnd r (λ e. e ≡ fault.NoMemory) → IsGoodBy rule objects
    → MatchResult r (IsMadeBy rule objects) (IsRefusedBy rule objects)
refused rule objects (Ok s) h g = absurd h
refused rule objects (Err e) h g = subst (IsRefusedBy rule objects) (sym h) g
