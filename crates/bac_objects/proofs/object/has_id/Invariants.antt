-- No object so far has the identifier.
use Rattle.std.proofs.Common.{◌≡◌, drop, map}
use Rattle.bac_value.specs.Views.{object_identifier_view}
use Rattle.bac_store.specs.Views.{object_view}
use Rattle.bac_objects.specs.Objects.{has_id}
use Rattle.bac_objects.proofs.object.has_id.Given as goal

abbrev pub invariant-loop-object : goal.invariant-loop-object
invariant-loop-object l =
    has_id (object_identifier_view l.id) (map object_view l.objects)
    ≡ has_id (object_identifier_view l.id) (map object_view (drop l.object-index l.objects))
