use Rattle.std.proofs.Common.{◌≡◌, ◌∙◌, sym, ap, None, Some, ℕ, Option}
use Rattle.bac_store.specs.declared.change_fault.ChangeFault.{ChangeFault}
use Rattle.bac_store.specs.declared.change_fault.ChangeFault.TheVariants as fault
use Rattle.bac_store.specs.AtNode.{or_fault, value_fault, whole}
use Rattle.bac_store.specs.Stores.{Object, Property, is_number, listed_in}
use Rattle.bac_store.specs.Views.{entry_view, slot_view}
use Rattle.bac_value.specs.Views.{object_identifier_view}
use Rattle.bac_store.proofs.Places.{first_that-none, first_that-only}
use Rattle.bac_store.proofs.permitting.permitted_values.Goals as goal

-- the fault, if the object is found and the property is listed
module _ (o : Option Object) (e : Object) (found : Some e ≡ o) (n : ℕ) (fault_for : Property → Option ChangeFault) where
  in_object : (p : Option Property) → listed_in e n ≡ p
      → or_fault fault.NoSuchObject o (λ x. or_fault fault.NoSuchProperty (listed_in x n) fault_for) ≡ or_fault fault.NoSuchProperty p fault_for
  in_object p is =
      ap (λ x. or_fault fault.NoSuchObject x (λ y. or_fault fault.NoSuchProperty (listed_in y n) fault_for)) (sym found)
      ∙ ap (λ x. or_fault fault.NoSuchProperty x fault_for) is

pub returns-in_default-slot_place : goal.returns-in_default-slot_place
returns-in_default-slot_place c =
    let n = c.args.property in
    let id = object_identifier_view c.args.object in
    let none = first_that-none slot_view (is_number n) c.deref.result.now c.in_default-slot_place.ensures in
    in_object _ (entry_view c.in-Some.entry.now) (c.in-Some.ensures).found n (value_fault (whole id n) c.args.octets.now) None
    (rw c.deref.ensures.value at none)

pub returns : goal.returns
returns c =
    let n = c.args.property in
    let id = object_identifier_view c.args.object in
    let at = c.in-Some-slot_place.at in
    let found = first_that-only slot_view (is_number n) c.deref.result.now at c.index.result.now c.in-Some-slot_place.ensures in
    rw (in_object _ (entry_view c.in-Some.entry.now) (c.in-Some.ensures).found n (value_fault (whole id n) c.args.octets.now)
    (Some (slot_view c.index.result.now)) ((rw c.deref.ensures.value at found) ∙ ap (λ x. Some (slot_view x)) (sym c.index.ensures)))
    c.values_for.ensures
