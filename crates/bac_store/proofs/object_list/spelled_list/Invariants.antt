use Rattle.std.proofs.Common.{◌≡◌, map, take}
use Rattle.bac_value.specs.Data.{IsData}
use Rattle.bac_value.specs.Views.{object_identifier_view}
use Rattle.bac_store.specs.Described.{list_spelling}
use Rattle.bac_store.proofs.object_list.spelled_list.Given as goal

abbrev pub invariant-loop-id : goal.invariant-loop-id
invariant-loop-id l = record {
  is : l.octets.items ≡ list_spelling (map object_identifier_view (take l.id-index l.ids));
  whole : IsData l.octets.items;
}
