use Rattle.std.proofs.Common.{◌≡◌, ◌≢◌, ℕ, arith, ◌∙◌}
use Rattle.std.proofs.lemmas.Bool.Decides.{nat_tests}
use Rattle.bac_store.specs.Limits.{FILE_ACCESS_METHOD, FILE_SIZE, OBJECT_IDENTIFIER, OBJECT_NAME, OBJECT_TYPE}
use Rattle.bac_store.specs.Stores.{Object, is_number, listed_in, property_in}
use Rattle.bac_store.specs.Views.{slot_view, entry_view}
use Rattle.bac_store.proofs.Places.{first_that-none, first_that-place}
use Rattle.bac_store.proofs.lookups.find.Goals as goal

-- every other number is a listed property
listed_by : (o : Object) (n : ℕ) → n ≢ OBJECT_IDENTIFIER → n ≢ OBJECT_NAME → n ≢ OBJECT_TYPE → n ≢ FILE_ACCESS_METHOD → n ≢ FILE_SIZE
    → property_in o n ≡ listed_in o n
listed_by o n a b c d e = grind (arith, nat_tests)

pub returns-in-Some-slot_place : goal.returns-in-Some-slot_place
returns-in-Some-slot_place c =
    let n = c.args.number in
    let is = listed_by (entry_view c.args.entry.now) n (omega arith) (omega arith) (omega arith) (omega arith) (omega arith) in
    let place = first_that-place slot_view (is_number n) c.deref.result.now c.in-Some-slot_place.at c.in-Some-slot_place.ensures in
    rw is (rw c.deref.ensures.value at place)

pub returns-in-None-slot_place : goal.returns-in-None-slot_place
returns-in-None-slot_place c =
    let n = c.args.number in
    let is = listed_by (entry_view c.args.entry.now) n (omega arith) (omega arith) (omega arith) (omega arith) (omega arith) in
    let none = first_that-none slot_view (is_number n) c.deref.result.now c.in-None-slot_place.ensures in
    is ∙ (rw c.deref.ensures.value at none)
