-- No property so far has the number.
use Rattle.std.proofs.Common.{◌≡◌, drop, map}
use Rattle.bac_store.specs.Views.{property_view}
use Rattle.bac_objects.specs.Consistency.{values_of}
use Rattle.bac_objects.proofs.consistency.values_of.Given as goal

abbrev pub invariant-loop-property : goal.invariant-loop-property
invariant-loop-property l =
    values_of l.number (map property_view l.properties) ≡ values_of l.number (map property_view (drop l.property-index l.properties))
