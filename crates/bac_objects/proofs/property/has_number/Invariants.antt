-- No property so far has the number.
use Rattle.std.proofs.Common.{◌≡◌, drop, map}
use Rattle.bac_store.specs.Views.{property_view}
use Rattle.bac_objects.specs.Properties.{has_number}
use Rattle.bac_objects.proofs.property.has_number.Given as goal

abbrev pub invariant-loop-property : goal.invariant-loop-property
invariant-loop-property l =
    has_number l.number (map property_view l.properties) ≡ has_number l.number (map property_view (drop l.property-index l.properties))
