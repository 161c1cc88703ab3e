-- One property more, and one object more.
use Rattle.std.proofs.Common.{◌≡◌, ◌≢◌, ℕ, zero, suc, ◌<◌, Bool, true, false, IsTrue, if◌then◌else◌, List, [], ◌∷◌, ◌++◌, length, map, get_or, refl, ap, arith}
use Rattle.std.proofs.lemmas.Bool.Decides.{nat_tests}
use Rattle.std.proofs.lemmas.List.Elements.{All-append, All-cons, All-nil}
use Rattle.std.proofs.lemmas.List.Quantifiers.{all_pairs_push}
use Rattle.bac_value.specs.Value.{ObjectId}
use Rattle.bac_value.specs.Views.{object_identifier_view}
use Rattle.bac_store.specs.declared.object.Object as thing
use Rattle.bac_store.specs.declared.object.Property as listed
use Rattle.bac_store.specs.Views.{object_view, property_view}
use Rattle.bac_store.specs.Objects.{IsRight, is_right_property}
use Rattle.bac_store.specs.Stores.{Object, Property, is_number, is_object}
use Rattle.bac_objects.specs.Objects.{has_id}
use Rattle.bac_objects.specs.Properties.{has_number}
use Rattle.bac_objects.specs.Right.{AreFit, AreRight}

test_false : (t rest : Bool) → (if t then true else rest) ≡ false → t ≡ false
test_false true rest e = cc
test_false false rest e = refl

rest_false : (t rest : Bool) → (if t then true else rest) ≡ false → rest ≡ false
rest_false true rest e = cc
rest_false false rest e = e

other_number : (ps : List Property) (n : ℕ) → has_number n ps ≡ false → (k : ℕ) (d : Property) → k < length ps → (get_or ps k d).number ≡ n → ⊥
other_number [] n h k d l e = absurd (omega arith)
other_number (p ∷ ps) n h zero d l e = let t = test_false (is_number n p) (has_number n ps) h in grind (arith, nat_tests)
other_number (p ∷ ps) n h (suc k) d l e = other_number ps n (rest_false (is_number n p) (has_number n ps) h) k d (omega arith) e

other_id : (os : List Object) (id : ObjectId) → has_id id os ≡ false → (k : ℕ) (d : Object) → k < length os → (get_or os k d).id ≡ id → ⊥
other_id [] id h k d l e = absurd (omega arith)
other_id (o ∷ os) id h zero d l e =
    let t = test_false (is_object id o) (has_id id os) h in
    let a : o.id.kind ≡ id.kind = ap (λ (i : ObjectId). i.kind) e in
    let b : o.id.instance ≡ id.instance = ap (λ (i : ObjectId). i.instance) e in
    grind (arith, nat_tests)
other_id (o ∷ os) id h (suc k) d l e = other_id os id (rest_false (is_object id o) (has_id id os) h) k d (omega arith) e

right_more : (kind : ℕ) (ps : List Property) (p : Property) → AreRight kind ps → IsTrue (is_right_property kind p) → has_number p.number ps ≡ false
    → AreRight kind (ps ++ p ∷ [])
right_more kind ps p h r new = record {
  each = All-append (λ x. IsTrue (is_right_property kind x)) ps (p ∷ []) h.each (All-cons (λ x. IsTrue (is_right_property kind x)) p [] r (All-nil _));
  distinct = all_pairs_push (λ a b. a.number ≢ b.number) ps p h.distinct (λ k d l. other_number ps p.number new k d l);
}

fit_more : (os : List Object) (o : Object) → AreFit os → IsRight o → has_id o.id os ≡ false → AreFit (os ++ o ∷ [])
fit_more os o h r new = record {
  each = All-append IsRight os (o ∷ []) h.each (All-cons IsRight o [] r (All-nil _));
  distinct = all_pairs_push (λ a b. a.id ≢ b.id) os o h.distinct (λ k d l. other_id os o.id new k d l);
}

-- ---- the same of lists in code

map_push : {A B : Type 0} (f : A → B) (xs : List A) (x : A) → map f (xs ++ x ∷ []) ≡ map f xs ++ f x ∷ []
map_push f [] x = refl
map_push f (y ∷ xs) x = ap (λ t. f y ∷ t) (map_push f xs x)

pub right_pushed : (kind : ℕ) (old new : List listed.Property) (p : listed.Property) → new ≡ old ++ p ∷ [] → AreRight kind (map property_view old)
    → IsTrue (is_right_property kind (property_view p)) → has_number p.number (map property_view old) ≡ false → AreRight kind (map property_view new)
right_pushed kind old new p e h r n =
    rw e (rw (map_push property_view old p) (right_more kind (map property_view old) (property_view p) h r n))

pub fit_pushed : (old new : List thing.Object) (o : thing.Object) → new ≡ old ++ o ∷ [] → AreFit (map object_view old) → IsRight (object_view o)
    → has_id (object_identifier_view o.id) (map object_view old) ≡ false → AreFit (map object_view new)
fit_pushed old new o e h r n = rw e (rw (map_push object_view old o) (fit_more (map object_view old) (object_view o) h r n))
