-- Different object identifiers have different numbers.
use Rattle.std.proofs.Common.{◌≡◌, ℕ, ◌+◌, ◌*◌, ◌^◌, ◌<◌, ◌==◌, ◌&&◌, List, length, map, get_or, arith}
use Rattle.std.specs.List.{All}
use Rattle.std.proofs.lemmas.Bool.Decides.{nat_tests}
use Rattle.std.proofs.lemmas.List.{length-map}
use Rattle.std.proofs.Math.ListN.{get_or-map}
use Rattle.bac_value.specs.Value.{ObjectId}
use Rattle.bac_store.specs.Kept.{object_number, IsKept}
use Rattle.bac_store.specs.Stores.{is_object}
use Rattle.bac_store.specs.Views.{entry_view}
use Rattle.bac_store.specs.declared.entry.StoredObject.{StoredObject}

same_number : (a b c d : ℕ) → b < 2 ^ 22 → d < 2 ^ 22 → ((a == c) && (b == d)) ≡ ((c * 2 ^ 22 + d) == (a * 2 ^ 22 + b))
same_number a b c d p q = grind (arith, nat_tests)

pub tells_object : (id : ObjectId) → id.instance < 2 ^ 22 → (objects : List StoredObject) → All IsKept (map entry_view objects)
    → All (λ e. is_object id (entry_view e) ≡ (object_number (entry_view e).id == object_number id)) objects
tells_object id fits objects kept i d l =
    let k : IsKept (entry_view (get_or objects i d)) = rw (← get_or-map entry_view objects i d) (kept i (entry_view d) (simp length-map l)) in
    same_number id.kind id.instance (entry_view (get_or objects i d)).id.kind (entry_view (get_or objects i d)).id.instance fits k.instance_fits

pub kept_at : (objects : List StoredObject) → All IsKept (map entry_view objects) → (i : ℕ) (d : StoredObject) → i < length objects → IsKept (entry_view (get_or objects i d))
kept_at objects kept i d l = rw (← get_or-map entry_view objects i d) (kept i (entry_view d) (simp length-map l))
