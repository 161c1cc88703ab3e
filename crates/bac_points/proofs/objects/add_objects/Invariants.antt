-- With the objects of the elements that are left, those so far are all.
use Rattle.std.proofs.Common.{length, map}
use Rattle.bac_value.specs.Views.{object_identifier_view}
use Rattle.bac_service.specs.Views.{property_reference_view}
use Rattle.bac_points.proofs.Elements.{FoundSoFar}
use Rattle.bac_points.proofs.objects.add_objects.Given as goal

abbrev pub invariant-loop-element : goal.invariant-loop-element
invariant-loop-element l =
    FoundSoFar (map property_reference_view l.elements) l.ends (map property_reference_view l.fn.elements) l.fn.ends
    (map object_identifier_view l.fn.objects.items) (map object_identifier_view l.objects.items)

abbrev pub decreases-loop-element : goal.decreases-loop-element
decreases-loop-element l = length l.elements
