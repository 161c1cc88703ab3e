-- Lists for help.
use Rattle.std.specs.Prelude.{ℕ, List, [], ◌∷◌, ◌++◌, codes, decimal}
use Rattle.std.specs.List.{flat_map}
use Rattle.bac_point_text.specs.Enumerations.{Names, TABLES, rows_of}
use Rattle.bac_point_text.specs.Lines.{heading}

abbrev pub heading_line : (table : List ℕ) → List ℕ
heading_line table = heading table ++ (10 ∷ [])

-- the words for all enumerations, a line each
abbrev pub words_text : List ℕ
words_text = codes "object-type\nproperty-identifier\n" ++ flat_map heading_line TABLES

abbrev pub row_line : (row : ℕ × List ℕ) → List ℕ
row_line row = decimal row.0 ++ (codes " " ++ (row.1 ++ codes "\n"))

-- the numbers and names of an enumeration, a line each
abbrev pub names_text : Names → List ℕ
names_text e = flat_map row_line (rows_of e)
