-- Sorted objects and properties.
use Rattle.std.specs.Prelude.{◌≡◌, ℕ, ◌<◌, Bool, List, length, map, MatchBool, slice_index_or}
use Rattle.std.specs.List.{All, AllPairs}
use Rattle.std.specs.List.Sorted.{IsPermutation}
use Rattle.bac_store.specs.declared.object.Object as thing
use Rattle.bac_store.specs.declared.rule.Rule.{Rule}
use Rattle.bac_store.specs.Objects.{IsRightBy}
use Rattle.bac_store.specs.Stores.{Object}
use Rattle.bac_store.specs.Views.{object_view}

-- the object with its properties in another order
pub record IsReordered (old new : Object) : Type 0 where
  pub id : new.id ≡ old.id
  pub name : new.name ≡ old.name
  pub properties : IsPermutation old.properties new.properties
  pub file : new.file ≡ old.file

pub record IsSorting (r : Rule) (old new : Object) : Type 0 where
  pub reordered : IsReordered old new
  pub right : IsRightBy r old
  pub rise : AllPairs (λ p q. p.number < q.number) new.properties

-- whether an object is valid; if it is, its properties are sorted now
abbrev pub SortsObject : Rule → Bool → Object → Object → Type 0
SortsObject r sorted old new = MatchBool sorted (IsSorting r old new) (IsRightBy r old → ⊥)

pub record AreSorted (r : Rule) (old new : List thing.Object) : Type 0 where
  pub same_length : length new ≡ length old
  pub each : (i : ℕ) (d : thing.Object) → i < length old → IsSorting r (object_view (slice_index_or old i d)) (object_view (slice_index_or new i d))

-- whether all objects are valid
abbrev pub SortsObjects : Rule → Bool → List thing.Object → List thing.Object → Type 0
SortsObjects r sorted old new = MatchBool sorted (AreSorted r old new) (All (IsRightBy r) (map object_view old) → ⊥)
