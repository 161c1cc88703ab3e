-- Changes of the list of objects, as values.
use Rattle.std.proofs.Common.{◌≡◌, List, [], ◌∷◌, ◌++◌, refl, sym, ap, ◌∙◌}
use Rattle.std.specs.Prelude.{map, OnOk, Result, Ok, Err}
use Rattle.std.proofs.lemmas.List.{map-append}
use Rattle.bac_store.specs.declared.object.Object as code
use Rattle.bac_store.specs.Stores.{Object}
use Rattle.bac_store.specs.Views.{object_view}
use Rattle.bac_c.specs.Listing.{IsLastChanged}
use Rattle.bac_c.specs.declared.fault.Fault.{Fault}

pub one_added : (old new : List code.Object) (x : code.Object) (o : Object) → new ≡ old ++ x ∷ [] → object_view x ≡ o → map object_view new ≡ map object_view old ++ o ∷ []
one_added old new x o is same = ap (map object_view) is ∙ map-append object_view old (x ∷ []) ∙ ap (λ (y : Object). map object_view old ++ y ∷ []) same

pub last_changed : (f : Object → Object) (old front new : List code.Object) (x y : code.Object) → old ≡ front ++ x ∷ [] → new ≡ front ++ y ∷ [] → object_view y ≡ f (object_view x)
    → IsLastChanged f (map object_view old) (map object_view new)
last_changed f old front new x y was is same =
    record { front = map object_view front; last = object_view x; was = one_added front old x (object_view x) was refl; is = one_added front new y (f (object_view x)) is same }

pub last_kept : (old front new : List code.Object) (x y : code.Object) → old ≡ front ++ x ∷ [] → new ≡ front ++ y ∷ [] → object_view y ≡ object_view x
    → map object_view new ≡ map object_view old
last_kept old front new x y was is same = one_added front new y (object_view x) is same ∙ sym (one_added front old x (object_view x) was refl)

-- what follows where a call was done
pub where_ok : {A B : Type 0} (r : Result (Unit {0}) Fault) → (A → B) → OnOk r A → OnOk r B
where_ok (Ok _) f a = f a
where_ok (Err _) f a = a
