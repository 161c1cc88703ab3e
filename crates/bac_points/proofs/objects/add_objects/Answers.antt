-- The objects of one element more.
use Rattle.std.proofs.Common.{rules, ◌≡◌, ◌++◌, map, ap, arith}
use Rattle.std.proofs.lemmas.Grind.{common_steps}
use Rattle.bac_value.specs.Views.{object_identifier_view}
use Rattle.bac_service.specs.Views.{property_reference_view}
use Rattle.bac_point_report.specs.Listing.{AreObjectsOf}
use Rattle.bac_asking.specs.Recording.{outcome_of}
use Rattle.bac_points.proofs.Elements.{all_found_at, more_found_at}
use Rattle.bac_points.proofs.objects.add_objects.Goals as goal

pub loop-element-preserved : goal.loop-element-preserved
loop-element-preserved c =
    let came : AreObjectsOf (property_reference_view c.in-Some.element.now) (outcome_of c.in-Some-split_first.end.now) (map object_identifier_view c.in-Some-2.found.items) = search rules in
    let grows : map object_identifier_view c.extend_from_slice.new.self.items
    ≡ map object_identifier_view c.loop-element.objects.items ++ map object_identifier_view c.in-Some-2.found.items = grind (arith, common_steps) in
    more_found_at _ _ _ _ _ _ _ _ _ _ _ _ (ap (map property_reference_view) c.in-Some.ensures.cases.0) c.in-Some-split_first.ensures.cases.0 c.loop-element.invariant came grows

pub returns : goal.returns
returns c = all_found_at property_reference_view c.loop-element.elements.now _ _ _ _ _ c.in_default.ensures.cases c.loop-element.invariant
