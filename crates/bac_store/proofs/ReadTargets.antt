-- The target of a read, by look-ups.
use Rattle.std.proofs.Common.{◌≡◌, ◌∙◌, ◌⊎◌, inl, inr, ℕ, zero, suc, ◌+◌, ◌^◌, ◌<◌, ◌≤◌, Bool, true, false, List, length, map, get_or}
use Rattle.std.proofs.Common.{Option, Some, None, is_some, refl, sym, ap, subst, arith, if◌then◌else◌}
use Rattle.std.specs.List.{All}
use Rattle.std.proofs.lemmas.Bool.Decides.{nat_tests}
use Rattle.std.proofs.lemmas.Bool.{cases_lt}
use Rattle.std.proofs.lemmas.List.{get_or-map, length-map}
use Rattle.std.proofs.lemmas.List.Elements.{All-contains, All-map}
use Rattle.bac_value.specs.Value.{ObjectId}
use Rattle.bac_store.specs.declared.entry.StoredObject.{StoredObject}
use Rattle.bac_store.specs.Kept.{object_number, IsInOrder}
use Rattle.bac_store.specs.Limits.{ANY_INSTANCE, DEVICE, OBJECT_LIST}
use Rattle.bac_store.specs.Objects.{AreLike, IsStoreOf}
use Rattle.bac_store.specs.Stores.{Object, Store, is_object, is_same, listed_in, object_in}
use Rattle.bac_store.specs.Targets.{described_device, device, device_among, is_lister, lists_objects, or_object, read_in, IsFirst}
use Rattle.bac_store.specs.Views.{entry_view}
use Rattle.bac_store.proofs.Distinct.{first_some, some_first}
use Rattle.bac_store.proofs.Orders.{kept_at}
use Rattle.bac_store.proofs.Stored.{one_object}

-- ---- what is found is an object of the store

pub record IsIn (s : Store) (o : Object) : Type 0 where
  pub id : ObjectId
  pub found : object_in s id ≡ Some o

among_in : (count first : ℕ) (s : Store) (o : Object) → device_among count first s ≡ Some o → IsIn s o
unfolding device_among
among_in zero first s o e = cc
among_in (suc count) first s o e = go (lists_objects (object_in s (device first))) e (among_in count (suc first) s o)
  where
    go : (b : Bool) → (if b then object_in s (device first) else device_among count (suc first) s) ≡ Some o
        → (device_among count (suc first) s ≡ Some o → IsIn s o) → IsIn s o
    go true h later = record { id = device first; found = h }
    go false h later = later h

pub read_in_store : (s : Store) (id : ObjectId) (o : Object) → read_in s id ≡ Some o → IsIn s o
read_in_store s id o e = go (is_same id (device ANY_INSTANCE)) (described_device s) refl e
  where
    go : (b : Bool) (x : Option Object) → described_device s ≡ x → (if b then or_object x (object_in s id) else object_in s id) ≡ Some o → IsIn s o
    go false x f h = record { id = id; found = h }
    go true None f h = record { id = id; found = h }
    go true (Some p) f h = among_in (suc ANY_INSTANCE) 0 s o (f ∙ h)

-- ---- stores with the same look-ups

lists_like : (a b : Option Object) → AreLike a b → lists_objects a ≡ lists_objects b
lists_like None None l = refl
lists_like None (Some b) l = absurd l
lists_like (Some a) None l = absurd l
lists_like (Some a) (Some b) l = ap is_some (l.listed OBJECT_LIST)

either_like : (t : Bool) (a b c d : Option Object) → AreLike a b → AreLike c d → AreLike (if t then a else c) (if t then b else d)
either_like true a b c d l m = l
either_like false a b c d l m = m

or_like : (a b c d : Option Object) → AreLike a b → AreLike c d → AreLike (or_object a c) (or_object b d)
or_like None None c d l m = m
or_like None (Some b) c d l m = absurd l
or_like (Some a) None c d l m = absurd l
or_like (Some a) (Some b) c d l m = l

among_like : (count first : ℕ) (objects s : Store) → IsStoreOf objects s → AreLike (device_among count first s) (device_among count first objects)
unfolding device_among
among_like zero first objects s is = tt
among_like (suc count) first objects s is =
    subst (λ t. AreLike (device_among (suc count) first s)
    (if t then object_in objects (device first) else device_among count (suc first) objects))
    (lists_like (object_in s (device first)) (object_in objects (device first)) (is (device first)))
    (either_like (lists_objects (object_in s (device first))) (object_in s (device first)) (object_in objects (device first))
    (device_among count (suc first) s) (device_among count (suc first) objects) (is (device first)) (among_like count (suc first) objects s is))

pub read_like : (objects s : Store) → IsStoreOf objects s → (id : ObjectId) → AreLike (read_in s id) (read_in objects id)
read_like objects s is id =
    either_like (is_same id (device ANY_INSTANCE)) (or_object (described_device s) (object_in s id)) (or_object (described_device objects) (object_in objects id))
    (object_in s id) (object_in objects id)
    (or_like (described_device s) (described_device objects) (object_in s id) (object_in objects id) (among_like (suc ANY_INSTANCE) 0 objects s is) (is id))
    (is id)

-- ---- the device of a store

pub among_none : (s : Store) → ((i : ℕ) → lists_objects (object_in s (device i)) ≡ false) → (count first : ℕ) → device_among count first s ≡ None
unfolding device_among
among_none s none zero first = refl
among_none s none (suc count) first = rw (none first) (among_none s none count (suc first))

pub among_first : (s : Store) (at : ℕ) → lists_objects (object_in s (device at)) ≡ true
    → ((i : ℕ) → i < at → lists_objects (object_in s (device i)) ≡ false) → (count first : ℕ) → first ≤ at → at < first + count
    → device_among count first s ≡ object_in s (device at)
unfolding device_among
among_first s at lists none zero first low high = absurd (omega arith)
among_first s at lists none (suc count) first low high =
    go (lists_objects (object_in s (device first))) refl (among_first s at lists none count (suc first))
  where
    go : (b : Bool) → lists_objects (object_in s (device first)) ≡ b
        → (suc first ≤ at → at < suc first + count → device_among count (suc first) s ≡ object_in s (device at))
        → (if b then object_in s (device first) else device_among count (suc first) s) ≡ object_in s (device at)
    go true e later =
        let here : at ≤ first = grind (arith, none first) in
        let same : first ≡ at = omega arith in
        ap (λ i. object_in s (device i)) same
    go false e later =
        let other : first ≡ at → ⊥ = λ same. let t : lists_objects (object_in s (device first)) ≡ true = rw same lists in cc in
        later (omega (arith, other)) (omega arith)

lister_tells : (o : Object) → is_lister o ≡ false → o.id.kind ≡ DEVICE → is_some (listed_in o OBJECT_LIST) ≡ false
lister_tells o e k = grind (arith, nat_tests)

-- by the objects in which a device may be found
none_listed : (s : Store) (i : ℕ) → ((o : Object) → object_in s (device i) ≡ Some o → is_lister o ≡ false) → lists_objects (object_in s (device i)) ≡ false
none_listed s i none = go (object_in s (device i)) refl
  where
    go : (x : Option Object) → object_in s (device i) ≡ x → lists_objects x ≡ false
    go None e = refl
    go (Some o) e =
        let is : is_object (device i) o ≡ true = (some_first (is_object (device i)) s o e).1 in
        let kind : o.id.kind ≡ DEVICE = grind (arith, nat_tests) in
        lister_tells o (none o e) kind

-- ---- the same, by places in the list

pub no_device : (objects : List StoredObject) → All (λ e. is_lister (entry_view e) ≡ false) objects → described_device (map entry_view objects) ≡ None
no_device objects none =
    let s = map entry_view objects in
    let all : All (λ o. is_lister o ≡ false) s = All-map (λ o. is_lister o ≡ false) entry_view objects none in
    among_none s (λ i. none_listed s i (λ o e. All-contains (λ p. is_lister p ≡ false) s o all (some_first (is_object (device i)) s o e).0))
    (suc ANY_INSTANCE) 0

module _ (objects : List StoredObject) (order : IsInOrder (map entry_view objects)) (at : ℕ) (first : IsFirst (λ e. is_lister (entry_view e)) objects at)
    (d : StoredObject) where
  is_there : get_or (map entry_view objects) at (entry_view (get_or objects at d)) ≡ entry_view (get_or objects at d)
  is_there = get_or-map entry_view objects at d (entry_view (get_or objects at d)) first.within

  kind_there : (entry_view (get_or objects at d)).id.kind ≡ DEVICE
  kind_there = let t = first.passes d in grind (arith, nat_tests)

  earlier : (i : ℕ) → i < (entry_view (get_or objects at d)).id.instance → (p : Object) → (k : ℕ) → k < length (map entry_view objects)
      → get_or (map entry_view objects) k p ≡ p → p.id.kind ≡ DEVICE → p.id.instance ≡ i → is_lister p ≡ false
  earlier i less p k within is kind same = go (cases_lt k at)
    where
      inside : k < length objects
      inside = omega (arith, within, length-map objects entry_view)

      go : (k < at) ⊎ (at ≤ k) → is_lister p ≡ false
      go (inl b) =
          let seen : entry_view (get_or objects k d) ≡ p = sym (get_or-map entry_view objects k d p inside) ∙ is in
          subst (λ q. is_lister q ≡ false) seen (first.before k d b)
      go (inr a) = absurd (after (cases_lt at k))
        where
          after : (at < k) ⊎ (k ≤ at) → ⊥
          after (inl b) =
              let up = order.rise at k p b within in
              let here : get_or (map entry_view objects) at p ≡ entry_view (get_or objects at d) = get_or-map entry_view objects at d p first.within in
              let less_number : object_number (entry_view (get_or objects at d)).id < object_number p.id = subst (λ q. object_number q.id < object_number p.id) here
              (subst (λ q. object_number (get_or (map entry_view objects) at p).id < object_number q.id) is up) in
              omega (arith, less_number, kind_there, kind, same, less)
          after (inr b) =
              let places : at ≡ k = omega arith in
              let here : entry_view (get_or objects at d) ≡ p =
              sym (get_or-map entry_view objects at d p first.within) ∙ ap (λ n. get_or (map entry_view objects) n p) places ∙ is in
              let instance : (entry_view (get_or objects at d)).id.instance ≡ i = ap (λ q. q.id.instance) here ∙ same in
              omega (arith, instance, less)

  before_there : (i : ℕ) → i < (entry_view (get_or objects at d)).id.instance → lists_objects (object_in (map entry_view objects) (device i)) ≡ false
  before_there i less = none_listed (map entry_view objects) i (λ p e.
      let f = some_first (is_object (device i)) (map entry_view objects) p e in
      let tested : is_object (device i) p ≡ true = f.1 in
      let kind : p.id.kind ≡ DEVICE = grind (arith, nat_tests) in
      let same : p.id.instance ≡ i = grind (arith, nat_tests) in
      earlier i less p f.0.0 f.0.1 f.0.2 kind same)

  found_there : object_in (map entry_view objects) (device (entry_view (get_or objects at d)).id.instance) ≡ Some (entry_view (get_or objects at d))
  found_there =
      let o = entry_view (get_or objects at d) in
      let i = o.id.instance in
      let k = kind_there in
      let is : is_object (device i) o ≡ true = grind (arith, nat_tests) in
      first_some (is_object (device i)) (map entry_view objects) o (one_object (device i) (map entry_view objects) order.rise)
      (at, omega (arith, first.within, length-map objects entry_view), is_there) is

  lists_there : is_some (listed_in (entry_view (get_or objects at d)) OBJECT_LIST) ≡ true
  lists_there = let t = first.passes d in grind (arith, nat_tests)

  pub listed_device : described_device (map entry_view objects) ≡ Some (entry_view (get_or objects at d))
  listed_device =
      let o = entry_view (get_or objects at d) in
      let fits : o.id.instance < 2 ^ 22 = (kept_at objects order.each at d first.within).instance_fits in
      among_first (map entry_view objects) o.id.instance (ap lists_objects found_there ∙ lists_there) before_there (suc ANY_INSTANCE) 0
      (omega arith) (omega (arith, fits))
      ∙ found_there
