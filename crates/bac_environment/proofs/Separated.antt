-- The first part of a text, and the parts after it.
use Rattle.std.proofs.Common.{◌≡◌, ℕ, ◌+◌, ◌<◌, List, [], ◌∷◌, length, Some, None, take, drop}
use Rattle.std.specs.List.{position}
use Rattle.bac_value_text.proofs.Splits.{no_separator, at_separator}
use Rattle.bac_value_text.specs.Splits.{split_by}
use Rattle.bac_environment.specs.QuestionLines.{is_octet}

pub no_octet : (wanted : ℕ) (text : List ℕ) → position (is_octet wanted) text ≡ None → split_by (is_octet wanted) text ≡ text ∷ []
no_octet wanted = no_separator (is_octet wanted)

pub at_octet : (wanted : ℕ) (text : List ℕ) (end : ℕ) → position (is_octet wanted) text ≡ Some end
    → (end < length text) × (split_by (is_octet wanted) text ≡ take end text ∷ split_by (is_octet wanted) (drop (end + 1) text))
at_octet wanted = at_separator (is_octet wanted)
