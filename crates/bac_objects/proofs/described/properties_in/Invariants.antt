-- The properties so far; the remaining members are read after them.
use Rattle.std.proofs.Common.{◌≡◌, [], map}
use Rattle.bac_value.specs.Views.{object_identifier_view}
use Rattle.bac_store.specs.Views.{property_view}
use Rattle.toml.specs.View.{members_view, table_view}
use Rattle.bac_objects.specs.Described.{properties_on}
use Rattle.bac_objects.proofs.described.properties_in.Given as goal

abbrev pub invariant-loop-key : goal.invariant-loop-key
invariant-loop-key l =
    properties_on (object_identifier_view l.fn.id) [] (table_view l.fn.table)
    ≡ properties_on (object_identifier_view l.fn.id) (map property_view l.properties.items) (members_view l.key-iterator)
