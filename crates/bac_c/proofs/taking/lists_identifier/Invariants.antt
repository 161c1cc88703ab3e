-- An object with the identifier is among those from here on exactly where it is among all.
use Rattle.std.proofs.Common.{◌≡◌, drop, map}
use Rattle.std.specs.List.{list_any}
use Rattle.bac_value.specs.Views.{object_identifier_view}
use Rattle.bac_store.specs.Stores.{is_object}
use Rattle.bac_store.specs.Views.{object_view}
use Rattle.bac_c.proofs.taking.lists_identifier.Given as goal

abbrev pub invariant-loop-object : goal.invariant-loop-object
invariant-loop-object l =
    list_any (is_object (object_identifier_view l.fn.id)) (map object_view (drop l.object-index l.objects))
    ≡ list_any (is_object (object_identifier_view l.fn.id)) (map object_view l.objects)
