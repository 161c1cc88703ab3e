-- Limits of the last of some properties.
use Rattle.std.proofs.Common.{◌≡◌, true, false, List, [], ◌∷◌, ◌++◌, refl, sym, ap, ◌∙◌}
use Rattle.std.specs.Prelude.{map}
use Rattle.std.proofs.lemmas.List.{map-append}
use Rattle.bac_store.specs.Allowing.{Allowed}
use Rattle.bac_store.specs.Stores.{Object, Property}
use Rattle.bac_store.specs.Views.{object_view, property_view}
use Rattle.bac_store.specs.declared.object.Object as code_object
use Rattle.bac_store.specs.declared.object.Property as code
use Rattle.bac_c.specs.Listing.{has_some, last_lists, lists_property, with_allowed}
use Rattle.bac_c.proofs.Lists.{one_added}

limits_behind : (f : Allowed → Allowed) (front : List Property) (p : Property) → with_allowed f (front ++ p ∷ []) ≡ front ++ record p { allowed = f p.allowed } ∷ []
limits_behind f [] p = refl
limits_behind f (x ∷ []) p = refl
limits_behind f (x ∷ y ∷ ys) p = ap (λ ps. x ∷ ps) (limits_behind f (y ∷ ys) p)

some_behind : (front : List Property) (p : Property) → has_some (front ++ p ∷ []) ≡ true
some_behind [] p = refl
some_behind (x ∷ xs) p = refl

property_added : (old new : List code.Property) (x : code.Property) → new ≡ old ++ x ∷ [] → map property_view new ≡ map property_view old ++ property_view x ∷ []
property_added old new x is = ap (map property_view) is ∙ map-append property_view old (x ∷ [])

-- the last property, before and after it got other limits
pub last_limited : (f : Allowed → Allowed) (old front new : List code.Property) (x y : code.Property) → old ≡ front ++ x ∷ [] → new ≡ front ++ y ∷ []
    → property_view y ≡ record (property_view x) { allowed = f (property_view x).allowed }
    → map property_view new ≡ with_allowed f (map property_view old)
last_limited f old front new x y was is same =
    let before = property_added front old x was in
    let after = property_added front new y is in
    after ∙ ap (λ p. map property_view front ++ p ∷ []) same ∙ sym (ap (with_allowed f) before ∙ limits_behind f (map property_view front) (property_view x))

pub last_some : (old front : List code.Property) (x : code.Property) → old ≡ front ++ x ∷ [] → has_some (map property_view old) ≡ true
last_some old front x was = ap has_some (property_added front old x was) ∙ some_behind (map property_view front) (property_view x)

pub none_limited : (old : List code.Property) → old ≡ [] → has_some (map property_view old) ≡ false
none_limited old none = ap (λ ps. has_some (map property_view ps)) none

last_behind : (front : List Object) (o : Object) → last_lists (front ++ o ∷ []) ≡ lists_property o
last_behind [] o = refl
last_behind (x ∷ []) o = refl
last_behind (x ∷ y ∷ ys) o = last_behind (y ∷ ys) o

-- whether the object that was listed last has a property
pub last_has : (old front : List code_object.Object) (x : code_object.Object) → old ≡ front ++ x ∷ [] → last_lists (map object_view old) ≡ lists_property (object_view x)
last_has old front x was = ap last_lists (one_added front old x (object_view x) was refl) ∙ last_behind (map object_view front) (object_view x)
