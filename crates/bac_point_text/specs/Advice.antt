-- What is told where a text is no name of an enumeration.
use Rattle.std.specs.Prelude.{ℕ, nat_lt, List, [], ◌∷◌, ◌++◌, length, codes, if◌then◌else◌}
use Rattle.bac_point_text.specs.Enumerations.{Names, rows_of, word_of}

-- what stands behind a name, by the numbers and names that follow
abbrev pub separator : List (ℕ × List ℕ) → List ℕ
separator [] = []
separator (row ∷ []) = codes " or "
separator (row ∷ next ∷ rows) = codes ", "

-- names in a row: red, green or blue
abbrev pub joined_names : List (ℕ × List ℕ) → List ℕ
joined_names [] = []
joined_names (row ∷ rows) = (row.1 ++ separator rows) ++ joined_names rows

-- where the names are listed
abbrev pub list_advice : Names → List ℕ
list_advice e = codes "`bac help " ++ (word_of e ++ codes "` lists the names")

-- at most eight names are told
abbrev pub names_advice : Names → List ℕ
names_advice e = if nat_lt 8 (length (rows_of e)) then list_advice e else codes "expected " ++ joined_names (rows_of e)
