use Rattle.std.proofs.Common.{◌≡◌, ◌∙◌, sym, ap, set, get_or, map, length, arith}
use Rattle.std.proofs.lemmas.List.{map-set, with_items_is}
use Rattle.std.specs.Vec.{with_items}
use Rattle.bac_value.specs.Views.{object_identifier_view}
use Rattle.bac_store.specs.Changes.{with_values, where_that, with_own_values}
use Rattle.bac_store.specs.Stores.{is_object, is_number}
use Rattle.bac_store.specs.Views.{entry_view, slot_view}
use Rattle.bac_store.proofs.Orders.{kept_at}
use Rattle.bac_store.proofs.Places.{where_that-none, where_that-only}
use Rattle.bac_store.proofs.changing.set_values.Goals as goal

pub set_slot-requires : goal.set_slot-requires
set_slot-requires c =
    rw c.deref_mut.ensures.value ((kept_at c.args.objects.now c.requires.each c.in-Some.at c.index-objects-at.result c.in-Some.ensures.within).rise)

pub returns-in-Some : goal.returns-in-Some
returns-in-Some c =
    let old = get_or c.args.objects.now c.in-Some.at c.index-objects-at.result in
    let n = c.args.property in
    let values = c.args.values.octets.items in
    let kept : length c.set_slot.new.slots ≡ old.slots.len = omega (arith, c.deref_mut.ensures.len) in
    let slots : map slot_view (with_items old.slots c.set_slot.new.slots).items
    ≡ where_that (is_number n) (with_own_values values) (map slot_view old.slots.items) =
    ap (map slot_view) (with_items_is old.slots c.set_slot.new.slots kept)
    ∙ c.set_slot.ensures
    ∙ ap (λ xs. where_that (is_number n) (with_own_values values) (map slot_view xs)) c.deref_mut.ensures.value in
    map-set entry_view c.args.objects.now c.in-Some.at _
    ∙ ap (λ ps. set (map entry_view c.args.objects.now) c.in-Some.at (record (entry_view old) { properties = ps })) slots
    ∙ sym (where_that-only entry_view (is_object (object_identifier_view c.args.object))
    (with_values n values) c.args.objects.now c.in-Some.at c.index-objects-at.result c.in-Some.ensures)

pub returns-in-None : goal.returns-in-None
returns-in-None c =
    sym (where_that-none entry_view (is_object (object_identifier_view c.args.object))
    (with_values c.args.property c.args.values.octets.items) c.args.objects.now c.in-None.ensures)
