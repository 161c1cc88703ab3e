use Rattle.std.proofs.Common.{rules}
use Rattle.std.proofs.lemmas.List.Sorted.{answers_always}
use Rattle.bac_value.specs.Views.{object_identifier_view}
use Rattle.bac_store.specs.Kept.{object_number}
use Rattle.bac_store.specs.Stores.{is_object}
use Rattle.bac_store.specs.Views.{entry_view}
use Rattle.bac_store.proofs.Orders.{tells_object}
use Rattle.bac_store.proofs.Places.{placed}
use Rattle.bac_store.proofs.lookups.place_of.Goals as goal

-- the closure returns an object's number, and different objects have different numbers
pub returns : goal.returns
returns c =
    let facts = c.binary_search_by_key.ensures in
    let by_key = facts.position (λ e. object_number (object_identifier_view e.id)) (answers_always _ _ _ (λ f a r g called. search rules)) in
    let id = object_identifier_view c.args.id in
    let tells = tells_object id c.args.id.instance_fits c.args.objects.now c.requires.each in
    rw c.ok.ensures.value
    (placed entry_view (λ o. object_number o.id) (is_object id) (object_number id) c.args.objects.now c.requires.rise tells _ facts.bound
    (rw (← c.number_of-number.ensures) by_key))
