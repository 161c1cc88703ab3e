use Rattle.std.proofs.Common.{◌≡◌, ◌∙◌, map, length, sym, ap, subst, arith}
use Rattle.std.specs.List.Sorted.{IsPermutation}
use Rattle.std.proofs.lemmas.List.{with_items_is}
use Rattle.std.proofs.lemmas.Simd.{map-map}
use Rattle.std.proofs.lemmas.List.Sorted.{IsPermutation-map}
use Rattle.bac_value.specs.Views.{object_identifier_view}
use Rattle.bac_store.specs.Described.{AreListed, list_spelling}
use Rattle.bac_store.specs.Kept.{object_number}
use Rattle.bac_store.specs.Views.{object_view}
use Rattle.bac_store.proofs.Viewed.{non_decreasing_viewed}
use Rattle.bac_store.proofs.PlanLaws.{IfOk-map}
use Rattle.bac_store.proofs.object_list.object_list.Goals as goal

pub returns : goal.returns
returns c =
    let os = c.args.objects.now in
    let old = c.in_ok-ids.ids in
    let sorted = c.sort_identifiers.new.ids in
    let kept : length sorted ≡ old.len = omega (arith, c.deref_mut.ensures.len) in
    let seen : c.deref.result.now ≡ sorted = c.deref.ensures.value ∙ with_items_is old sorted kept in
    let moved : IsPermutation old.items sorted = subst (λ xs. IsPermutation xs sorted) c.deref_mut.ensures.value c.sort_identifiers.ensures.same in
    let listed : AreListed (map object_view os) (map object_identifier_view sorted) = record {
      same = subst (λ xs. IsPermutation xs (map object_identifier_view sorted)) (c.in_ok-ids.ensures ∙ sym (map-map _ _ os))
          (IsPermutation-map object_identifier_view old.items sorted moved);
      rise = non_decreasing_viewed object_identifier_view sorted object_number c.sort_identifiers.ensures.sorted;
    } in
    IfOk-map c.spelled_list.result _ _
    (λ d is. record { ids = map object_identifier_view sorted; listed = listed; is = is ∙ ap (λ xs. list_spelling (map object_identifier_view xs)) seen })
    c.spelled_list.ensures
