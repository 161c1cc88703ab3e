use Rattle.std.proofs.Common.{rules, ◌≡◌, ◌<◌, ◌++◌, [], ◌∷◌, length, map, arith}
use Rattle.std.proofs.lemmas.Grind.{common_steps}
use Rattle.bac_value.specs.Meaning.{IsValueOf}
use Rattle.bac_value.specs.Value.{object}
use Rattle.bac_value.specs.Views.{element_view, object_identifier_view}
use Rattle.bac_point_report.proofs.Objects.{all_taken, no_object_none, none_at, none_behind, one_more, shorter}
use Rattle.bac_point_report.proofs.listing.objects_in.Goals as goal

pub loop-element-smaller : goal.loop-element-smaller
loop-element-smaller c =
    let less : length c.in-Some.more.octets.now < length c.loop-element.rest.octets.now = shorter _ _ _ c.in-Some.ensures.0 c.in-Some.ensures.1 in
    omega arith

pub loop-element-preserved : goal.loop-element-preserved
loop-element-preserved c =
    let items : map object_identifier_view c.push.new.self.items
    ≡ map object_identifier_view c.loop-element.objects.items ++ (object_identifier_view c.in-Some-2.object ∷ []) = grind (arith, common_steps) in
    let value : IsValueOf (object (object_identifier_view c.in-Some-2.object)) (element_view (λ s. s.now) c.in-Some.element) = search rules in (
      (λ more are. rw items (one_more _ _ _ _ _ _ c.loop-element.invariant.0 c.in-Some.ensures.0 c.in-Some.ensures.1 value more are)),
      (λ none. c.loop-element.invariant.1 (none_behind _ _ _ c.in-Some.ensures.0 c.in-Some.ensures.1 none)),
    )

pub returns : goal.returns
returns c = all_taken _ c.loop-element.rest.octets.now _ c.loop-element.invariant.0 (search rules)

pub returns-in_default-2 : goal.returns-in_default-2
returns-in_default-2 c =
    none_at _ _ _ _ _ c.loop-element.invariant c.in-Some.ensures.0 c.in-Some.ensures.1 (no_object_none _ _ c.in_default-2.is c.in_ok-object.ensures)
