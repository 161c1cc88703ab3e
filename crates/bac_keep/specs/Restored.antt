-- The store after kept values, and kept octets, take the place of its own, where they may be written.
use Rattle.std.specs.Prelude.{ℕ, Bool, false, List, Option, Some, None, if◌then◌else◌}
use Rattle.bac_value.specs.Value.{ObjectId}
use Rattle.bac_store.specs.Changes.{with_object, with_octets, with_values}
use Rattle.bac_store.specs.Stores.{File, Property, Store}
use Rattle.bac_store.specs.Writes.{file_at, listed_at}

abbrev pub is_writable_value : Option Property → Bool
is_writable_value None = false
is_writable_value (Some p) = p.writable

abbrev pub is_writable_file : Option File → Bool
is_writable_file None = false
is_writable_file (Some f) = f.writable

abbrev pub with_kept_values : ObjectId → ℕ → List ℕ → Store → Store
with_kept_values id n values s = if is_writable_value (listed_at s id n) then with_object id (with_values n values) s else s

abbrev pub with_kept_octets : ObjectId → List ℕ → Store → Store
with_kept_octets id octets s = if is_writable_file (file_at s id) then with_object id (with_octets (λ old. octets)) s else s
