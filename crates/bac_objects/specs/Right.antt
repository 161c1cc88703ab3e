-- The invariant of the objects that are read so far: a store can contain them.
use Rattle.std.specs.Prelude.{◌≢◌, ℕ, IsTrue, List}
use Rattle.std.specs.List.{All, AllPairs}
use Rattle.bac_store.specs.Objects.{AreDistinct, IsRight, is_right_property}
use Rattle.bac_store.specs.Stores.{Object, Property}

-- properties that are valid for an object of this type
pub record AreRight (kind : ℕ) (ps : List Property) : Type 0 where
  pub each : All (λ p. IsTrue (is_right_property kind p)) ps
  pub distinct : AllPairs (λ a b. a.number ≢ b.number) ps

-- objects that a store can contain
pub record AreFit (os : List Object) : Type 0 where
  pub each : All IsRight os
  pub distinct : AreDistinct os
