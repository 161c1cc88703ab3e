-- The invariant of the fields of a store.
use Rattle.std.specs.Prelude.{ℕ, ◌+◌, ◌*◌, ◌^◌, ◌<◌, ◌≤◌, length, IfSome}
use Rattle.std.specs.List.{All, AllPairs}
use Rattle.bac_value.specs.Value.{ObjectId}
use Rattle.bac_store.specs.Limits.{VALUE_LIMIT, FILE_LIMIT}
use Rattle.bac_store.specs.Stores.{Store, Object, Property}
use Rattle.bac_store.specs.Plans.{StoreEffect}

-- clause 20.2.14: type and instance as one number
abbrev pub object_number : ObjectId → ℕ
object_number id = id.kind * 2 ^ 22 + id.instance

abbrev pub IsShort : Property → Type 0
IsShort p = length p.values ≤ VALUE_LIMIT

-- the properties are ascending, for binary searches, and everything is short enough
pub record IsKept (o : Object) : Type 0 where
  pub kind_fits : o.id.kind < 1024
  pub instance_fits : o.id.instance < 2 ^ 22
  pub named : length o.name < VALUE_LIMIT
  pub rise : AllPairs (λ p q. p.number < q.number) o.properties
  pub short : All IsShort o.properties
  pub file_fits : IfSome o.file (λ f. length f.octets ≤ FILE_LIMIT)

-- the objects are ascending too
pub record IsInOrder (s : Store) : Type 0 where
  pub rise : AllPairs (λ a b. object_number a.id < object_number b.id) s
  pub each : All IsKept s

abbrev pub Fits : StoreEffect → Type 0
Fits StoreEffect.Nothing = Unit {0}
Fits (StoreEffect.Values id n values) = length values ≤ VALUE_LIMIT
Fits (StoreEffect.Octets id at new) = at + length new ≤ FILE_LIMIT
Fits (StoreEffect.Contents id octets) = length octets ≤ FILE_LIMIT
