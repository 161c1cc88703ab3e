-- The object that a read asks for (clause 15.5): by device 4,194,303, which no object has, the device of a described store.
use Rattle.std.specs.Prelude.{◌≡◌, ℕ, zero, suc, ◌<◌, Bool, true, false, ◌==◌, ◌&&◌, List, length, slice_index_or, Option, Some, None, is_some}
use Rattle.std.specs.Prelude.{if◌then◌else◌}
use Rattle.bac_value.specs.Value.{ObjectId}
use Rattle.bac_store.specs.Limits.{ANY_INSTANCE, DEVICE, OBJECT_LIST}
use Rattle.bac_store.specs.Stores.{Store, Object, is_same, listed_in, object_in}

-- only the device of a described store lists an object-list
abbrev pub lists_objects : Option Object → Bool
lists_objects None = false
lists_objects (Some o) = is_some (listed_in o OBJECT_LIST)

abbrev pub device : ℕ → ObjectId
device instance = record { kind = DEVICE; instance = instance }

-- among this many instances from a first one on, the first device that lists an object-list
unfoldable pub device_among : (count first : ℕ) → Store → Option Object
device_among zero first s = None
device_among (suc count) first s =
    if lists_objects (object_in s (device first)) then object_in s (device first) else device_among count (suc first) s

-- of the devices that list an object-list, the one with the least instance
abbrev pub described_device : Store → Option Object
described_device s = device_among (suc ANY_INSTANCE) 0 s

abbrev pub or_object : Option Object → Option Object → Option Object
or_object None other = other
or_object (Some o) other = Some o

-- the target of a read
abbrev pub read_in : Store → ObjectId → Option Object
read_in s id = if is_same id (device ANY_INSTANCE) then or_object (described_device s) (object_in s id) else object_in s id

-- ---- the results in code

abbrev pub is_lister : Object → Bool
is_lister o = (o.id.kind == DEVICE) && is_some (listed_in o OBJECT_LIST)

-- the element at a place passes the test, and none before it does
pub record IsFirst {A : Type 0} (test : A → Bool) (xs : List A) (at : ℕ) : Type 0 where
  pub within : at < length xs
  pub passes : (d : A) → test (slice_index_or xs at d) ≡ true
  pub before : (j : ℕ) (d : A) → j < at → test (slice_index_or xs j d) ≡ false
