-- A line's first word, and the words after it.
use Rattle.std.proofs.Common.{◌≡◌, ℕ, ◌+◌, ◌<◌, List, [], ◌∷◌, length, Some, None, take, drop}
use Rattle.std.specs.List.{position}
use Rattle.bac_value_text.proofs.Splits.{no_separator, at_separator}
use Rattle.bac_simulate.specs.LineWords.{is_space, words_of}

pub no_space : (line : List ℕ) → position is_space line ≡ None → words_of line ≡ line ∷ []
no_space = no_separator is_space

pub at_space : (line : List ℕ) (end : ℕ) → position is_space line ≡ Some end
    → (end < length line) × (words_of line ≡ take end line ∷ words_of (drop (end + 1) line))
at_space = at_separator is_space
