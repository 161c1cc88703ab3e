-- Changes preserve the invariant of a store's fields.
use Rattle.std.proofs.Common.{◌≡◌, ℕ, ◌+◌, ◌<◌, ◌≤◌, Bool, true, false, List, length, map, get_or, Option, Some, None}
use Rattle.std.proofs.Common.{sym, subst, refl, arith, if◌then◌else◌}
use Rattle.std.specs.List.{All, AllPairs}
use Rattle.std.specs.Option.{option_map, IfSome}
use Rattle.std.proofs.lemmas.List.{length-map, length-append, length-take, length-drop, get_or-map}
use Rattle.std.proofs.lemmas.Bool.Decides.{nat_tests}
use Rattle.std.proofs.lemmas.List.{with_items_is}
use Rattle.std.specs.Global.{Vec}
use Rattle.std.specs.Vec.{with_items}
use Rattle.bac_store.specs.declared.entry.StoredObject.{StoredObject}
use Rattle.bac_store.specs.Views.{entry_view}
use Rattle.bac_store.specs.Changes.{where_that, with_own_values, with_values, with_contents, with_octets}
use Rattle.bac_store.specs.Kept.{object_number, IsShort, IsKept, IsInOrder, Fits}
use Rattle.bac_store.specs.Limits.{VALUE_LIMIT, FILE_LIMIT}
use Rattle.bac_store.specs.Plans.{StoreEffect, with_effect}
use Rattle.bac_store.specs.Replies.{overwritten}
use Rattle.bac_store.specs.Stores.{Store, Object, File, is_object, is_number}

module _ {A : Type 0} (change : A → A) (test : A → Bool) where
  one : A → A
  one x = if test x then change x else x

  pub All-where_that : (P : A → Type 0) → ((x : A) → P x → P (change x)) → (xs : List A) → All P xs → All P (where_that test change xs)
  All-where_that P keeps xs all i d l =
      let within : i < length xs = omega (arith, length-map xs (λ x. if test x then change x else x)) in
      rw (get_or-map (λ x. if test x then change x else x) xs i d d within) (by_case (get_or xs i d) (all i d within))
    where
      by_case : (x : A) → P x → P (if test x then change x else x)
      by_case x p = go (test x)
        where
          go : (b : Bool) → P (if b then change x else x)
          go true = keeps x p
          go false = p

  pub rise-where_that : (key : A → ℕ) → ((x : A) → key (change x) ≡ key x) → (xs : List A) → AllPairs (λ a b. key a < key b) xs
      → AllPairs (λ a b. key a < key b) (where_that test change xs)
  rise-where_that key keeps xs rise i j d l within =
      let inside : j < length xs = omega (arith, length-map xs (λ x. if test x then change x else x)) in
      let before : i < length xs = omega arith in
      rw (get_or-map (λ x. if test x then change x else x) xs i d d before, get_or-map (λ x. if test x then change x else x) xs j d d inside)
      (rw (same (get_or xs i d), same (get_or xs j d)) (rise i j d l inside))
    where
      same : (x : A) → key (if test x then change x else x) ≡ key x
      same x = go (test x)
        where
          go : (b : Bool) → key (if b then change x else x) ≡ key x
          go true = keeps x
          go false = refl

values_kept : (n : ℕ) (values : List ℕ) → length values ≤ VALUE_LIMIT → (o : Object) → IsKept o → IsKept (with_values n values o)
values_kept n values short o k = record {
  kind_fits = k.kind_fits;
  instance_fits = k.instance_fits;
  named = k.named;
  rise = rise-where_that (with_own_values values) (is_number n) (λ p. p.number) (λ p. refl) o.properties k.rise;
  short = All-where_that (with_own_values values) (is_number n) IsShort (λ p old. short) o.properties k.short;
  file_fits = k.file_fits;
}

overwritten_fits : (at : ℕ) (new old : List ℕ) → at + length new ≤ FILE_LIMIT → length old ≤ FILE_LIMIT → length (overwritten at new old) ≤ FILE_LIMIT
overwritten_fits at new old short fits =
    rw (length-append, length-append, length-take, length-drop) (grind (arith, nat_tests))

octets_fit : (at : ℕ) (new : List ℕ) → at + length new ≤ FILE_LIMIT → (f : Option File) → IfSome f (λ g. length g.octets ≤ FILE_LIMIT)
    → IfSome (option_map (with_contents (overwritten at new)) f) (λ g. length g.octets ≤ FILE_LIMIT)
octets_fit at new short None h = tt
octets_fit at new short (Some f) h = overwritten_fits at new f.octets short h

octets_kept : (at : ℕ) (new : List ℕ) → at + length new ≤ FILE_LIMIT → (o : Object) → IsKept o → IsKept (with_octets (overwritten at new) o)
octets_kept at new short o k = record {
  kind_fits = k.kind_fits;
  instance_fits = k.instance_fits;
  named = k.named;
  rise = k.rise;
  short = k.short;
  file_fits = octets_fit at new short o.file k.file_fits;
}

contents_fit : (octets : List ℕ) → length octets ≤ FILE_LIMIT → (f : Option File) → IfSome f (λ g. length g.octets ≤ FILE_LIMIT)
    → IfSome (option_map (with_contents (λ old. octets)) f) (λ g. length g.octets ≤ FILE_LIMIT)
contents_fit octets short None h = tt
contents_fit octets short (Some f) h = short

contents_kept : (octets : List ℕ) → length octets ≤ FILE_LIMIT → (o : Object) → IsKept o → IsKept (with_octets (λ old. octets) o)
contents_kept octets short o k = record {
  kind_fits = k.kind_fits;
  instance_fits = k.instance_fits;
  named = k.named;
  rise = k.rise;
  short = k.short;
  file_fits = contents_fit octets short o.file k.file_fits;
}

pub effect_in_order : (c : StoreEffect) → Fits c → (s : Store) → IsInOrder s → IsInOrder (with_effect c s)
effect_in_order StoreEffect.Nothing f s o = o
effect_in_order (StoreEffect.Values id n values) f s o = record {
  rise = rise-where_that (with_values n values) (is_object id) (λ x. object_number x.id) (λ x. refl) s o.rise;
  each = All-where_that (with_values n values) (is_object id) IsKept (values_kept n values f) s o.each;
}
effect_in_order (StoreEffect.Contents id octets) f s o = record {
  rise = rise-where_that (with_octets (λ old. octets)) (is_object id) (λ x. object_number x.id) (λ x. refl) s o.rise;
  each = All-where_that (with_octets (λ old. octets)) (is_object id) IsKept (contents_kept octets f) s o.each;
}
effect_in_order (StoreEffect.Octets id at new) f s o = record {
  rise = rise-where_that (with_octets (overwritten at new)) (is_object id) (λ x. object_number x.id) (λ x. refl) s o.rise;
  each = All-where_that (with_octets (overwritten at new)) (is_object id) IsKept (octets_kept at new f) s o.each;
}

-- the vector of objects after a change
pub vector_in_order : (v : Vec StoredObject) (ws : List StoredObject) (c : StoreEffect) → Fits c → IsInOrder (map entry_view v.items) → length ws ≡ v.len
    → map entry_view ws ≡ with_effect c (map entry_view v.items) → IsInOrder (map entry_view (with_items v ws).items)
vector_in_order v ws c f o kept is =
    subst (λ xs. IsInOrder (map entry_view xs)) (sym (with_items_is v ws kept)) (subst IsInOrder (sym is) (effect_in_order c f (map entry_view v.items) o))
