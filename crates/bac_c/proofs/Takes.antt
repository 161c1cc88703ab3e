-- Whether a plain start takes objects, from the flaws of each.
use Rattle.std.proofs.Common.{◌≡◌, ◌≢◌, ℕ, ◌<◌, ◌≤◌, Bool, true, false, not, eqb, List, [], ◌∷◌, ◌++◌, length, map, take, get_or, Option, Some, None}
use Rattle.std.proofs.Common.{refl, sym, ap, subst, arith, ◌∙◌}
use Rattle.std.specs.Prelude.{IfOk, IsTrue, Result, Ok, Err, nat_le, ◌&&◌}
use Rattle.std.specs.List.{All, AllPairs, list_any}
use Rattle.std.proofs.lemmas.Bool.Decides.{nat_tests}
use Rattle.std.proofs.lemmas.List.{get_or-map, get_or-take, get_or_default, length-map, length-take-le, take-map}
use Rattle.std.proofs.lemmas.List.Elements.{All-cons, All-nil}
use Rattle.std.proofs.lemmas.List.Folds.{list_any_at, list_any_none}
use Rattle.bac_value.specs.Value.{ObjectId}
use Rattle.bac_value.specs.declared.memory.NoMemory.{NoMemory}
use Rattle.bac_store.specs.Allowing.{Allowed, are_right_limits}
use Rattle.bac_store.specs.Kinds.{kind_of}
use Rattle.bac_store.specs.Limits.{FIRST_VENDOR_PROPERTY, FIRST_VENDOR_TYPE, VALUE_LIMIT}
use Rattle.bac_store.specs.Made.{IsMadeOf, IsRefused}
use Rattle.bac_store.specs.declared.store_fault.StoreFault.TheVariants as fault
use Rattle.bac_store.specs.Objects.{AreDistinct, IsRight, are_right_values, is_right_number, is_right_property}
use Rattle.bac_store.specs.Stores.{Object, Property, Store, is_number, is_object, is_same}
use Rattle.bac_store.specs.Views.{object_view, property_view}
use Rattle.bac_store.specs.declared.object.Object as code_object
use Rattle.bac_store.specs.declared.object.Property as code_property
use Rattle.bac_store.proofs.ValueData.{name_fits}
use Rattle.bac_store.proofs.Viewed.{each_viewed}
use Rattle.bac_c.specs.declared.flaw.Flaw.{Flaw}
use Rattle.bac_c.specs.declared.flaw.Flaw.TheVariants as flaw
use Rattle.bac_c.specs.declared.taking.Refusal.{Refusal}
use Rattle.bac_c.specs.Taking.{AreTaken, AreTakenUpTo, HaveNoFlaw, IsFirstFlawed, IsFirstRefused, IsRefusedAfter, IsTakenAfter}
use Rattle.bac_c.specs.Taking.{object_flaw, property_flaw, unless, vendor_object}

-- ---- a test over the earlier elements

module _ {A : Type 0} (test : A → Bool) (xs : List A) (at : ℕ) where
  pub earlier_fails : at ≤ length xs → list_any test (take at xs) ≡ false → (i : ℕ) (d : A) → i < at → test (get_or xs i d) ≡ false
  earlier_fails most none i d l = go (test (get_or xs i d)) refl
    where
      go : (b : Bool) → test (get_or xs i d) ≡ b → test (get_or xs i d) ≡ false
      go false e = e
      go true e =
          let inside : i < length (take at xs) = omega (arith, length-take-le at xs most) in
          let there : test (get_or (take at xs) i d) ≡ true = ap test (get_or-take at xs i d l) ∙ e in
          let found = list_any_at test (take at xs) i d inside there in
          cc

  pub earlier_none : at ≤ length xs → ((i : ℕ) (d : A) → i < at → test (get_or xs i d) ≡ false) → list_any test (take at xs) ≡ false
  earlier_none most each = list_any_none test (take at xs) (λ i d l.
      let before : i < at = omega (arith, length-take-le at xs most) in
      ap test (get_or-take at xs i d before) ∙ each i d before)

-- ---- a property

-- each check holds exactly where there is no flaw

four_hold : (a b c d : Bool) (v w x y : Flaw) → unless a v (unless b w (unless c x (unless d y None))) ≡ None → (a ≡ true) × (b ≡ true) × (c ≡ true) × (d ≡ true)
four_hold true true true true v w x y e = (refl, refl, refl, refl)
four_hold false b c d v w x y e = cc
four_hold true false c d v w x y e = cc
four_hold true true false d v w x y e = cc
four_hold true true true false v w x y e = cc

four_none : (a b c d : Bool) (v w x y : Flaw) → a ≡ true → b ≡ true → c ≡ true → d ≡ true → unless a v (unless b w (unless c x (unless d y None))) ≡ None
four_none a b c d v w x y ea eb ec ed = rw (ea, eb, ec, ed) refl

is_no : (b : Bool) → not b ≡ true → b ≡ false
is_no false e = refl
is_no true e = sym e

conjunction : (a l v d : Bool) → a ≡ true → (l && v) ≡ true → d ≡ true → (a && l && v && d) ≡ true
conjunction true true true true ea el ed = refl
conjunction false l v d ea el ed = cc
conjunction true false v d ea el ed = cc
conjunction true true false d ea el ed = cc
conjunction true true true false ea el ed = cc

conjuncts : (a l v d : Bool) → (a && l && v && d) ≡ true → (a ≡ true) × ((l && v) ≡ true) × (d ≡ true)
conjuncts true true true true e = (refl, refl, refl)
conjuncts false l v d e = cc
conjuncts true false v d e = cc
conjuncts true true false d e = cc
conjuncts true true true false e = cc

property_right : (k : ℕ) (before : List Property) (p : Property) → property_flaw k before p ≡ None
    → (is_right_property k p ≡ true) × (list_any (is_number p.number) before ≡ false)
property_right k before p none =
    let hold = four_hold (is_right_number p.number) (not (list_any (is_number p.number) before))
    (nat_le (length p.values) VALUE_LIMIT && are_right_values k p.number p.values) (are_right_limits p.allowed p.values) flaw.Number flaw.Twice flaw.Values
    flaw.Limits none in (
      conjunction (is_right_number p.number) (nat_le (length p.values) VALUE_LIMIT) (are_right_values k p.number p.values) (are_right_limits p.allowed p.values)
          hold.0 hold.2 hold.3,
      is_no (list_any (is_number p.number) before) hold.1,
    )

right_property : (k : ℕ) (before : List Property) (p : Property) → is_right_property k p ≡ true → list_any (is_number p.number) before ≡ false
    → property_flaw k before p ≡ None
right_property k before p right new =
    let hold = conjuncts (is_right_number p.number) (nat_le (length p.values) VALUE_LIMIT) (are_right_values k p.number p.values)
    (are_right_limits p.allowed p.values) right in
    four_none (is_right_number p.number) (not (list_any (is_number p.number) before)) (nat_le (length p.values) VALUE_LIMIT && are_right_values k p.number p.values)
    (are_right_limits p.allowed p.values) flaw.Number flaw.Twice flaw.Values flaw.Limits hold.0 (ap not new) hold.1 hold.2

apart : (a b : ℕ) → a ≢ b → eqb a b ≡ false
apart a b differ = grind (arith, nat_tests)

module _ (k : ℕ) (ps : List Property) where
  pub properties_right : HaveNoFlaw k (length ps) ps → All (λ p. IsTrue (is_right_property k p)) ps
  properties_right none i d l = (property_right k (take i ps) (get_or ps i d) (none i d l)).0

  pub properties_differ : HaveNoFlaw k (length ps) ps → AllPairs (λ a b. a.number ≢ b.number) ps
  properties_differ none i j d l within same =
      let new = (property_right k (take j ps) (get_or ps j d) (none j d within)).1 in
      let other = earlier_fails (is_number (get_or ps j d).number) ps j (omega arith) new i d l in
      grind (arith, nat_tests)

  pub none_flawed : All (λ p. IsTrue (is_right_property k p)) ps → AllPairs (λ a b. a.number ≢ b.number) ps → HaveNoFlaw k (length ps) ps
  none_flawed right differ i d l =
      right_property k (take i ps) (get_or ps i d) (right i d l) (earlier_none (is_number (get_or ps i d).number) ps i (omega arith) (λ j e before.
      let same = ap (λ (p : Property). p.number) (get_or_default ps i e d l) in
      apart (get_or ps j e).number (get_or ps i d).number (λ is. differ j i e before l (is ∙ sym same))))

-- ---- an object

object_right : (before : List Object) (o : Object) → IsTakenAfter before o → IsRight o
object_right before o taken = record {
  id = grind (arith, taken.whole);
  name = grind (arith, nat_tests, taken.whole);
  each = properties_right o.id.kind o.properties taken.each;
  distinct = properties_differ o.id.kind o.properties taken.each;
  file = grind (arith, taken.whole);
}

object_new : (before : List Object) (o : Object) → object_flaw before o ≡ None → list_any (is_object o.id) before ≡ false
object_new before o none = grind arith

right_object : (before : List Object) (o : Object) → IsRight o → list_any (is_object o.id) before ≡ false → object_flaw before o ≡ None
right_object before o right new =
    let id = right.id in
    let name = right.name in
    let file = right.file in
    grind (arith, nat_tests)

same_object : (a b : ObjectId) → a ≡ b → is_same b a ≡ true
same_object a b same =
    let kind : b.kind ≡ a.kind = ap (λ (x : ObjectId). x.kind) (sym same) in
    let instance : b.instance ≡ a.instance = ap (λ (x : ObjectId). x.instance) (sym same) in
    grind (arith, nat_tests)

same_identifiers : (a b : ObjectId) → is_same b a ≡ true → a ≡ b
same_identifiers a b same =
    let kind : a.kind ≡ b.kind = grind (arith, nat_tests) in
    let instance : a.instance ≡ b.instance = grind (arith, nat_tests) in
    λ i. record { kind = kind i; instance = instance i }

other_object : (a b : ObjectId) → a ≢ b → is_same b a ≡ false
other_object a b differ = go (is_same b a) refl
  where
    go : (t : Bool) → is_same b a ≡ t → is_same b a ≡ false
    go false e = e
    go true e = absurd (differ (same_identifiers a b e))

pub all_taken : (os : List Object) → AreTakenUpTo (length os) os → AreTaken os
all_taken os upto = record {
  right = λ i d l. object_right (take i os) (get_or os i d) (upto i d l);
  distinct = λ i j d l within same.
      let new = object_new (take j os) (get_or os j d) (upto j d within).whole in
      let other = earlier_fails (is_object (get_or os j d).id) os j (omega arith) new i d l in
      let is = same_object (get_or os i d).id (get_or os j d).id same in
      cc;
}

empty : Object
empty = record { id = record { kind = 0; instance = 0 }; name = []; properties = []; file = None }

refused_after : (before : List Object) (o : Object) (property : Option ℕ) (why : Flaw) → IsRefusedAfter before o property why → IsRight o
    → list_any (is_object o.id) before ≡ false → ⊥
refused_after before o None why refused right new = let fits = right_object before o right new in cc
refused_after before o (Some n) why refused right new =
    let nothing : Property = record { number = 0; values = []; writable = false; kind = None; allowed = Allowed.Any } in
    let first = refused.1 in
    let flawed = first.flawed nothing in
    let none = none_flawed o.id.kind o.properties right.each right.distinct first.at nothing first.within in
    cc

pub not_taken : (os : List Object) (e : Refusal) → IsFirstRefused os e → AreTaken os → ⊥
not_taken os e first taken =
    let new = earlier_none (is_object (get_or os e.object empty).id) os e.object (omega (arith, first.within)) (λ i d l.
    let same = ap (λ (o : Object). o.id) (get_or_default os e.object d empty first.within) in
    other_object (get_or os i d).id (get_or os e.object empty).id (λ is. taken.distinct i e.object d l first.within (is ∙ sym same))) in
    refused_after (take e.object os) (get_or os e.object empty) e.property e.why (first.refused empty) (taken.right e.object empty first.within) new

-- ---- a store of one object tells whether limits fit

module _ (values : List ℕ) (allowed : Allowed) where
  abbrev vendor_property : Property
  vendor_property = record { number = FIRST_VENDOR_PROPERTY; values = values; writable = false; kind = kind_of values; allowed = allowed }

  vendor_fits : length values ≤ VALUE_LIMIT → are_right_limits allowed values ≡ true → is_right_property FIRST_VENDOR_TYPE vendor_property ≡ true
  vendor_fits short fit = grind (arith, nat_tests)

  vendor_right : length values ≤ VALUE_LIMIT → are_right_limits allowed values ≡ true → IsRight (vendor_object values allowed)
  vendor_right short fit = record {
    id = refl;
    name = name_fits [] (omega arith);
    each = All-cons (λ p. IsTrue (is_right_property FIRST_VENDOR_TYPE p)) vendor_property [] (vendor_fits short fit) (All-nil (λ p. IsTrue (is_right_property FIRST_VENDOR_TYPE p)));
    distinct = λ i j d l within. absurd (omega arith);
    file = refl;
  }

  vendor_limits : IsRight (vendor_object values allowed) → are_right_limits allowed values ≡ true
  vendor_limits right =
      let fits = right.each 0 vendor_property (omega arith) in
      grind (arith, nat_tests)

  one_apart : AreDistinct (vendor_object values allowed ∷ [])
  one_apart i j d l within = absurd (omega arith)

  pub limits_fit : (os : List Object) (s : Store) → os ≡ vendor_object values allowed ∷ [] → IsMadeOf os s → are_right_limits allowed values ≡ true
  limits_fit os s is made =
      let right = subst (λ (xs : List Object). All IsRight xs) is made.right in
      vendor_limits (right 0 empty (omega arith))

  pub limits_misfit : (os : List Object) → os ≡ vendor_object values allowed ∷ [] → length values ≤ VALUE_LIMIT → IsRefused os fault.BadObject
      → are_right_limits allowed values ≡ false
  limits_misfit os is short bad = go (are_right_limits allowed values) refl
    where
      go : (b : Bool) → are_right_limits allowed values ≡ b → are_right_limits allowed values ≡ false
      go false e = e
      go true e = absurd (bad.wrong (subst (λ (xs : List Object). All IsRight xs) (sym is)
          (All-cons IsRight (vendor_object values allowed) [] (vendor_right short e) (All-nil IsRight))))

  pub never_twice : (os : List Object) → os ≡ vendor_object values allowed ∷ [] → IsRefused os fault.Duplicate → ⊥
  never_twice os is twice = twice (subst AreDistinct (sym is) one_apart)

-- ---- the name

pub tells : (b : Bool) (n m : ℕ) → (b ≡ true → n ≤ m) → (n ≤ m → b ≡ true) → b ≡ nat_le n m
tells true n m to from = let l = to refl in grind (arith, nat_tests)
tells false n m to from = go (nat_le n m) refl
  where
    go : (t : Bool) → nat_le n m ≡ t → false ≡ nat_le n m
    go false e = sym e
    go true e =
        let l : n ≤ m = grind (arith, nat_tests) in
        let t : false ≡ true = from l in
        cc

-- ---- the first that is refused, as the code has it

viewed : {A B : Type 0} (f : A → B) (xs : List A) (at : ℕ) (x : A) (d : B) → at < length xs → x ≡ get_or xs at x → get_or (map f xs) at d ≡ f x
viewed f xs at x d within is = get_or-map f xs at x d within ∙ ap f (sym is)

-- what holds of the element at a place, and of those before it, in the words of the view
seen : {A B : Type 0} (f : A → B) (xs : List A) (Q : List B → B → Type 0) (at : ℕ) (x : A) (d : B) → at < length xs → x ≡ get_or xs at x
    → Q (map f (take at xs)) (f x) → Q (take at (map f xs)) (get_or (map f xs) at d)
seen {B = B} f xs Q at x d within is q =
    subst (λ (ys : List B). Q ys (get_or (map f xs) at d)) (sym (take-map f at xs)) (subst (λ (y : B). Q (map f (take at xs)) y) (sym (viewed f xs at x d within is)) q)

module _ (k : ℕ) (ps : List code_property.Property) where
  pub first_flawed : (at : ℕ) (x : code_property.Property) (why : Flaw) → at < length ps → x ≡ get_or ps at x
      → ((i : ℕ) (d : code_property.Property) → i < at → property_flaw k (map property_view (take i ps)) (property_view (get_or ps i d)) ≡ None)
      → property_flaw k (map property_view (take at ps)) (property_view x) ≡ Some why → IsFirstFlawed k (map property_view ps) x.number why
  first_flawed at x why within is before flawed = record {
    at = at;
    within = omega (arith, within, length-map ps property_view);
    before = each_viewed property_view ps (λ b p. property_flaw k b p ≡ None) at (omega arith) before;
    numbered = λ d. ap (λ (p : Property). p.number) (viewed property_view ps at x d within is);
    flawed = λ d. seen property_view ps (λ b p. property_flaw k b p ≡ Some why) at x d within is flawed;
  }

  pub no_flaw : (at : ℕ) → at ≡ length ps
      → ((i : ℕ) (d : code_property.Property) → i < at → property_flaw k (map property_view (take i ps)) (property_view (get_or ps i d)) ≡ None)
      → HaveNoFlaw k (length (map property_view ps)) (map property_view ps)
  no_flaw at all before i d l =
      each_viewed property_view ps (λ b p. property_flaw k b p ≡ None) at (omega arith) before i d (omega (arith, l, all, length-map ps property_view))

module _ (os : List code_object.Object) where
  pub first_refused : (at : ℕ) (x : code_object.Object) (property : Option ℕ) (why : Flaw) → at < length os → x ≡ get_or os at x
      → ((i : ℕ) (d : code_object.Object) → i < at → IsTakenAfter (map object_view (take i os)) (object_view (get_or os i d)))
      → IsRefusedAfter (map object_view (take at os)) (object_view x) property why
      → IsFirstRefused (map object_view os) (record { object = at; property = property; why = why })
  first_refused at x property why within is before refused = record {
    within = omega (arith, within, length-map os object_view);
    before = each_viewed object_view os IsTakenAfter at (omega arith) before;
    refused = λ d. seen object_view os (λ b o. IsRefusedAfter b o property why) at x d within is refused;
  }

  pub none_refused : (at : ℕ) → at ≡ length os
      → ((i : ℕ) (d : code_object.Object) → i < at → IsTakenAfter (map object_view (take i os)) (object_view (get_or os i d))) → AreTaken (map object_view os)
  none_refused at all before =
      all_taken (map object_view os) (λ i d l. each_viewed object_view os IsTakenAfter at (omega arith) before i d (omega (arith, l, all, length-map os object_view)))

-- ---- what a store of one object tells

pub one_listed : (old new : List code_object.Object) (x : code_object.Object) (o : Object) → old ≡ [] → new ≡ old ++ x ∷ [] → object_view x ≡ o
    → map object_view new ≡ o ∷ []
one_listed old new x o none is same =
    ap (map object_view) (is ∙ ap (λ (xs : List code_object.Object). xs ++ x ∷ []) none) ∙ ap (λ (y : Object). y ∷ []) same

pub told : (r : Result Bool NoMemory) (b fits : Bool) → r ≡ Ok b → b ≡ fits → IfOk r (λ fit. fit ≡ fits)
told r b fits is same = subst (λ (x : Result Bool NoMemory). IfOk x (λ fit. fit ≡ fits)) (sym is) same

pub failed : (r : Result Bool NoMemory) (e : NoMemory) (fits : Bool) → r ≡ Err e → IfOk r (λ fit. fit ≡ fits)
failed r e fits is = subst (λ (x : Result Bool NoMemory). IfOk x (λ fit. fit ≡ fits)) (sym is) tt
