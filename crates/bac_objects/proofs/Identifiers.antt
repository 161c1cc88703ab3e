-- Reading objects one after the other.
use Rattle.std.proofs.Common.{◌≡◌, ℕ, ◌+◌, ◌<◌, true, if◌then◌else◌, List, length, map, drop, get_or}
use Rattle.std.proofs.lemmas.List.{drop_more}
use Rattle.bac_value.specs.Value.{ObjectId}
use Rattle.bac_store.specs.declared.object.Object as thing
use Rattle.bac_store.specs.Stores.{is_object}
use Rattle.bac_store.specs.Views.{object_view}
use Rattle.bac_objects.specs.Objects.{has_id}

pub id_next : (os : List thing.Object) (id : ObjectId) (i : ℕ) (d : thing.Object) → i < length os
    → has_id id (map object_view (drop i os))
    ≡ (if is_object id (object_view (get_or os i d)) then true else has_id id (map object_view (drop (i + 1) os)))
id_next os id i d l = rw (drop_more os i d l)
