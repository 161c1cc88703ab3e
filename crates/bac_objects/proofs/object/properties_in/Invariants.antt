-- The properties so far are valid for the object; the remaining members are read after them.
use Rattle.std.proofs.Common.{◌≡◌, [], map}
use Rattle.bac_value.specs.Views.{object_identifier_view}
use Rattle.bac_store.specs.Views.{property_view}
use Rattle.toml.specs.View.{members_view, table_view}
use Rattle.bac_objects.specs.Objects.{properties_on}
use Rattle.bac_objects.specs.Right.{AreRight}
use Rattle.bac_objects.proofs.object.properties_in.Given as goal

abbrev pub invariant-loop-key : goal.invariant-loop-key
invariant-loop-key l = record {
  right : AreRight l.fn.id.kind (map property_view l.properties.items);
  goes_on :
      properties_on (object_identifier_view l.fn.id) [] (table_view l.fn.table)
      ≡ properties_on (object_identifier_view l.fn.id) (map property_view l.properties.items) (members_view l.key-iterator);
}
