use Rattle.std.proofs.Common.{◌≡◌, ◌≢◌, ◌<◌, ◌≤◌, ◌∙◌, subst, sym, refl, length, map, List, arith}
use Rattle.std.specs.Bool.{IsTrue}
use Rattle.std.specs.List.{All, AllPairs}
use Rattle.std.specs.List.Sorted.{IsPermutation}
use Rattle.std.specs.Vec.{with_items}
use Rattle.std.proofs.lemmas.List.{with_items_is}
use Rattle.bac_store.specs.declared.object.Property as listed
use Rattle.bac_value.specs.Value.{characters}
use Rattle.bac_value.specs.Writing.{value_spelling}
use Rattle.bac_store.specs.Limits.{VALUE_LIMIT}
use Rattle.bac_store.specs.Objects.{is_property_by}
use Rattle.bac_store.specs.Ordered.{SortsObject}
use Rattle.bac_store.specs.Views.{object_view, property_view}
use Rattle.bac_store.proofs.Sorting.{listed_twice, sorts}
use Rattle.bac_store.proofs.ordering.sort_and_check.Goals as goal

pub returns-then-not-are_listed_once : goal.returns-then-not-are_listed_once
returns-then-not-are_listed_once c =
    let o = c.args.object.now in
    let sorted = c.sort_properties.new.properties in
    let kept : length sorted ≡ o.properties.len = omega (arith, c.deref_mut.ensures.len) in
    let seen : c.deref-2.result.now ≡ sorted = c.deref-2.ensures.value ∙ with_items_is o.properties sorted kept in
    let moved : IsPermutation o.properties.items sorted = subst (λ xs. IsPermutation xs sorted) c.deref_mut.ensures.value c.sort_properties.ensures.same in
    listed_twice c.args.rule o sorted moved (λ apart. c.if-not-are_listed_once.ensures (subst (AllPairs (λ p q. p.number ≢ q.number)) (sym seen) apart))

pub returns : goal.returns
returns c =
    let o = c.args.object.now in
    let b = c.are_right_properties.result in
    let sorted = c.sort_properties.new.properties in
    let kept : length sorted ≡ o.properties.len = omega (arith, c.deref_mut.ensures.len) in
    let items : (with_items o.properties sorted).items ≡ sorted = with_items_is o.properties sorted kept in
    let moved : IsPermutation o.properties.items sorted = subst (λ xs. IsPermutation xs sorted) c.deref_mut.ensures.value c.sort_properties.ensures.same in
    let Each : List listed.Property → Type 0 = All (λ p. IsTrue (is_property_by c.args.rule (object_view o).id.kind (property_view p))) in
    subst (λ xs. SortsObject c.args.rule b (object_view o) (record (object_view o) { properties = map property_view xs })) (sym items)
    (sorts c.args.rule o sorted moved b
    (sym c.if-not-is_right_id.ensures)
    (subst (λ xs. length (value_spelling (characters 0 xs)) ≤ VALUE_LIMIT) c.deref.ensures (c.if-not-is_right_name.ensures.0 refl))
    (sym c.if-not-is_right_file.ensures)
    (subst (AllPairs (λ p q. p.number < q.number)) (c.deref-2.ensures.value ∙ items) c.if-not-are_listed_once.ensures)
    (λ t. subst Each (c.deref-3.ensures.value ∙ items) (c.are_right_properties.ensures.0 t))
    (λ all. c.are_right_properties.ensures.1 (subst Each (sym (c.deref-3.ensures.value ∙ items)) all)))
