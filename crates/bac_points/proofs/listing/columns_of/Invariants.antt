-- The columns of the objects so far.
use Rattle.std.proofs.Common.{◌≡◌, map, take}
use Rattle.bac_value.specs.Views.{object_identifier_view}
use Rattle.bac_service.specs.Views.{property_reference_view}
use Rattle.bac_points.specs.Lists.{columns}
use Rattle.bac_points.proofs.listing.columns_of.Given as goal

abbrev pub invariant-loop-object : goal.invariant-loop-object
invariant-loop-object l = map property_reference_view l.columns.items ≡ columns (map object_identifier_view (take l.object-index l.objects))
