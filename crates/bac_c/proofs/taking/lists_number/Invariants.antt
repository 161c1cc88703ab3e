-- A property with the number is among those from here on exactly where it is among all.
use Rattle.std.proofs.Common.{◌≡◌, drop, map}
use Rattle.std.specs.List.{list_any}
use Rattle.bac_store.specs.Stores.{is_number}
use Rattle.bac_store.specs.Views.{property_view}
use Rattle.bac_c.proofs.taking.lists_number.Given as goal

abbrev pub invariant-loop-property : goal.invariant-loop-property
invariant-loop-property l =
    list_any (is_number l.fn.number) (map property_view (drop l.property-index l.properties)) ≡ list_any (is_number l.fn.number) (map property_view l.properties)
