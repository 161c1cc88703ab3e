-- The first group of a text, and the groups after it.
use Rattle.std.proofs.Common.{◌≡◌, ℕ, ◌+◌, ◌<◌, List, [], ◌∷◌, length, Some, None, take, drop}
use Rattle.std.specs.List.{position}
use Rattle.bac_value_text.proofs.Splits.{no_separator, at_separator}
use Rattle.bac_text.specs.Groups.{is_gap, groups_of}

pub no_gap : (text : List ℕ) → position is_gap text ≡ None → groups_of text ≡ text ∷ []
no_gap = no_separator is_gap

pub at_gap : (text : List ℕ) (end : ℕ) → position is_gap text ≡ Some end
    → (end < length text) × (groups_of text ≡ take end text ∷ groups_of (drop (end + 1) text))
at_gap = at_separator is_gap
