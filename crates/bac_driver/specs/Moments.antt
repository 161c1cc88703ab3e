-- The moments that a clock has given.
use Rattle.std.specs.Prelude.{ℕ, List, [], ◌∷◌, ◌++◌, Option}
use Rattle.std.specs.Option.{option_map}

-- the last one, 0 before the first; and all of them in their order, where the clock keeps them
pub record Told : Type 0 where
  pub last : ℕ
  pub all : Option (List ℕ)

-- with one more moment
abbrev pub with_moment : Told → (moment : ℕ) → Told
with_moment told moment = record { last = moment; all = option_map (λ (moments : List ℕ). moments ++ moment ∷ []) told.all }
