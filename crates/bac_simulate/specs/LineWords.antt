-- The words of a line.
use Rattle.std.specs.Prelude.{ℕ, Bool, ◌==◌, List}
use Rattle.bac_value_text.specs.Splits.{split_by}

abbrev pub is_space : ℕ → Bool
is_space octet = octet == 32

-- the words of a line, separated by single spaces: where two spaces stand side by side, a word without octets is between them
abbrev pub words_of : List ℕ → List (List ℕ)
words_of line = split_by is_space line
