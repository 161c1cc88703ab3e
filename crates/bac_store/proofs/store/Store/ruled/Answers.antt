use Rattle.std.proofs.Common.{◌≡◌, ◌≢◌, ◌<◌, ◌∙◌, ap, subst, sym, length, map, arith, List, Vec}
use Rattle.std.specs.Global.{Global}
use Rattle.std.specs.List.{All, AllPairs}
use Rattle.std.specs.List.Sorted.{IsPermutation}
use Rattle.std.specs.Vec.{with_items}
use Rattle.std.proofs.lemmas.List.{with_items_is}
use Rattle.bac_value.specs.Views.{object_identifier_view}
use Rattle.bac_store.specs.declared.object.Object.{Object}
use Rattle.bac_store.specs.Kept.{object_number, IsInOrder}
use Rattle.bac_store.specs.Made.{IsGoodBy, IsMadeBy}
use Rattle.bac_store.specs.Objects.{IsRightBy}
use Rattle.bac_store.specs.declared.rule.Rule.{Rule}
use Rattle.bac_store.specs.Ordered.{AreSorted}
use Rattle.bac_store.specs.Views.{object_view}
use Rattle.bac_store.proofs.Stored.{bad, good, in_order, made, not_distinct, refused}
use Rattle.bac_store.proofs.store.Store.ruled.Goals as goal

pub returns-then-not-are_distinct : goal.returns-then-not-are_distinct
returns-then-not-are_distinct c =
    let old = c.args.objects in
    let sorted = c.sort_objects.new.objects in
    let kept : length sorted ≡ old.len = omega (arith, c.deref_mut.ensures.len) in
    let moved : IsPermutation old.items sorted = subst (λ xs. IsPermutation xs sorted) c.deref_mut.ensures.value c.sort_objects.ensures.same in
    let seen : c.deref.result.now ≡ sorted = c.deref.ensures.value ∙ with_items_is old sorted kept in
    not_distinct c.args.rule old.items sorted moved (λ apart. c.if-not-are_distinct.ensures
    (subst (AllPairs (λ a b. object_number (object_identifier_view a.id) ≢ object_number (object_identifier_view b.id))) (sym seen) apart))

pub returns-then-not-sort_and_check_each : goal.returns-then-not-sort_and_check_each
returns-then-not-sort_and_check_each c =
    let old = c.args.objects in
    let sorted = c.sort_objects.new.objects in
    let kept : length sorted ≡ old.len = omega (arith, c.deref_mut.ensures.len) in
    let items : (with_items old sorted).items ≡ sorted = with_items_is old sorted kept in
    let moved : IsPermutation old.items sorted = subst (λ xs. IsPermutation xs sorted) c.deref_mut.ensures.value c.sort_objects.ensures.same in
    bad c.args.rule old.items sorted moved (subst (AllPairs (λ a b. object_number (object_identifier_view a.id) < object_number (object_identifier_view b.id)))
    (c.deref.ensures.value ∙ items) c.if-not-are_distinct.ensures)
    (λ all. c.if-not-sort_and_check_each.ensures (subst (λ xs. All (IsRightBy c.args.rule) (map object_view xs)) (sym (c.deref_mut-2.ensures.value ∙ items)) all))

-- what is known once both sorts are done
known : (r : Rule) (old : Vec Object Global) (sorted new a b d : List Object)
    → length sorted ≡ length a → a ≡ old.items → length a ≡ old.len → IsPermutation a sorted
    → b ≡ (with_items old sorted).items → AllPairs (λ x y. object_number (object_identifier_view x.id) < object_number (object_identifier_view y.id)) b
    → d ≡ (with_items old sorted).items → length new ≡ length d → AreSorted r d new
    → record {
      good : IsGoodBy r (map object_view old.items);
      order : IsInOrder (map object_view (with_items (with_items old sorted) new).items);
      made : IsMadeBy r (map object_view old.items) (map object_view (with_items (with_items old sorted) new).items);
    }
known r old sorted new a b d k1 first k2 same second rise third k3 all =
    let kept : length sorted ≡ old.len = k1 ∙ k2 in
    let items : (with_items old sorted).items ≡ sorted = with_items_is old sorted kept in
    let moved : IsPermutation old.items sorted = subst (λ xs. IsPermutation xs sorted) first same in
    let up = subst (AllPairs (λ x y. object_number (object_identifier_view x.id) < object_number (object_identifier_view y.id))) (second ∙ items) rise in
    let each : AreSorted r sorted new = subst (λ xs. AreSorted r xs new) (third ∙ items) all in
    let last : (with_items (with_items old sorted) new).items ≡ new = with_items_is (with_items old sorted) new (k3 ∙ ap length (third ∙ items) ∙ kept) in
    record {
      good = good r old.items sorted moved new up each;
      order = subst (λ xs. IsInOrder (map object_view xs)) (sym last) (in_order r old.items sorted moved new up each);
      made = subst (λ xs. IsMadeBy r (map object_view old.items) (map object_view xs)) (sym last) (made r old.items sorted moved new up each);
    }

pub of_ordered-requires : goal.of_ordered-requires
of_ordered-requires c =
    (known c.args.rule c.args.objects c.sort_objects.new.objects c.sort_and_check_each.new.objects c.deref_mut.result.now c.deref.result.now c.deref_mut-2.result.now
    c.sort_objects.auto.objects c.deref_mut.ensures.value c.deref_mut.ensures.len c.sort_objects.ensures.same
    c.deref.ensures.value c.if-not-are_distinct.ensures c.deref_mut-2.ensures.value
    c.sort_and_check_each.auto.objects c.if-not-sort_and_check_each.ensures).order

pub returns-in_err-of_ordered : goal.returns-in_err-of_ordered
returns-in_err-of_ordered c =
    refused c.args.rule (map object_view c.args.objects.items) c.from_residual.result c.from_residual.ensures.1
    (known c.args.rule c.args.objects c.sort_objects.new.objects c.sort_and_check_each.new.objects c.deref_mut.result.now c.deref.result.now c.deref_mut-2.result.now
    c.sort_objects.auto.objects c.deref_mut.ensures.value c.deref_mut.ensures.len c.sort_objects.ensures.same
    c.deref.ensures.value c.if-not-are_distinct.ensures c.deref_mut-2.ensures.value
    c.sort_and_check_each.auto.objects c.if-not-sort_and_check_each.ensures).good

pub returns : goal.returns
returns c =
    subst (IsMadeBy c.args.rule (map object_view c.args.objects.items)) (sym c.in_ok-of_ordered.ensures)
    (known c.args.rule c.args.objects c.sort_objects.new.objects c.sort_and_check_each.new.objects c.deref_mut.result.now c.deref.result.now c.deref_mut-2.result.now
    c.sort_objects.auto.objects c.deref_mut.ensures.value c.deref_mut.ensures.len c.sort_objects.ensures.same
    c.deref.ensures.value c.if-not-are_distinct.ensures c.deref_mut-2.ensures.value
    c.sort_and_check_each.auto.objects c.if-not-sort_and_check_each.ensures).made
