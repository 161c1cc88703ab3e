-- The copies are of the properties so far.
use Rattle.std.proofs.Common.{◌≡◌, map, take}
use Rattle.bac_store.specs.Views.{property_view}
use Rattle.bac_c.proofs.listed.copied_properties.Given as goal

abbrev pub invariant-loop-property : goal.invariant-loop-property
invariant-loop-property l = map property_view l.copies.items ≡ map property_view (take l.property-index l.properties)
