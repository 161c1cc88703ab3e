-- The first line of a text, and the lines after it.
use Rattle.std.proofs.Common.{◌≡◌, ℕ, ◌+◌, ◌<◌, List, [], ◌∷◌, length, Some, None, take, drop}
use Rattle.std.specs.List.{position}
use Rattle.bac_value_text.proofs.Splits.{no_separator, at_separator}
use Rattle.bac_forms.specs.Base64.{is_line_end, lines_of}

pub one_line : (text : List ℕ) → position is_line_end text ≡ None → lines_of text ≡ text ∷ []
one_line = no_separator is_line_end

pub at_an_end : (text : List ℕ) (end : ℕ) → position is_line_end text ≡ Some end
    → (end < length text) × (lines_of text ≡ take end text ∷ lines_of (drop (end + 1) text))
at_an_end = at_separator is_line_end
