-- The elements before this place.
use Rattle.std.proofs.Common.{◌≡◌, ◌-◌, ◌≤◌, map}
use Rattle.bac_value.specs.Views.{object_identifier_view}
use Rattle.bac_service.specs.Views.{property_reference_view}
use Rattle.bac_points.specs.Lists.{elements}
use Rattle.bac_points.proofs.objects.elements_of.Given as goal

abbrev pub invariant-loop-place : goal.invariant-loop-place
invariant-loop-place l =
    (map property_reference_view l.elements.items ≡ elements (object_identifier_view l.fn.device) l.fn.behind (l.place - l.fn.behind))
    × (l.fn.behind ≤ l.place)
