-- What WriteProperty may set a property to.
use Rattle.std.specs.Prelude.{ℕ, Bool, true, false, ◌==◌, ◌&&◌, List, Option, Some, None}
use Rattle.std.specs.Cmp.Lexicographic.{pointwise}
use Rattle.std.specs.List.{list_all, list_any}
use Rattle.bac_store.specs.Kinds.{is_tag, kind_of}
use Rattle.bac_store.specs.Ranks.{is_at_most}

-- all values, those from a least to a greatest one, or those of a list; each value is encoded data
pub data Allowed : Type 0 where
  Any : Allowed
  Between : (least greatest : List ℕ) → Allowed
  OneOf : (values : List (List ℕ)) → Allowed

abbrev pub are_same : List ℕ → List ℕ → Bool
are_same = pointwise (λ a b. a == b)

abbrev pub is_allowed : Allowed → List ℕ → Bool
is_allowed Allowed.Any values = true
is_allowed (Allowed.Between least greatest) values = is_at_most least values && is_at_most values greatest
is_allowed (Allowed.OneOf listed) values = list_any (are_same values) listed

-- the octets encode one application value of this kind
abbrev pub has_kind : Option ℕ → List ℕ → Bool
has_kind None values = false
has_kind (Some k) values = is_tag k (kind_of values)

-- these limits can be set for a property with these first values: the values are allowed, and all limits are of their kind
abbrev pub are_right_limits : Allowed → List ℕ → Bool
are_right_limits Allowed.Any values = true
are_right_limits (Allowed.Between least greatest) values = is_allowed (Allowed.Between least greatest) values
are_right_limits (Allowed.OneOf listed) values = list_all (has_kind (kind_of values)) listed && is_allowed (Allowed.OneOf listed) values
