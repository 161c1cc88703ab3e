-- Texts that a spreadsheet would compute.
use Rattle.std.specs.Prelude.{◌==◌, ◌||◌, ℕ, Bool, false, List, [], ◌∷◌, ◌++◌, if◌then◌else◌}
use Rattle.bac_ask_report.specs.declared.cell_text.CellText.{CellText}
use Rattle.bac_ask_report.specs.declared.cell_text.CellText.TheVariants.{Shielded, Raw}

-- `=`, `+`, `-`, `@`, a tab or a carriage return
abbrev pub begins_formula : (octet : ℕ) → Bool
begins_formula octet = (octet == 61) || (octet == 43) || (octet == 45) || (octet == 64) || (octet == 9) || (octet == 13)

abbrev pub is_computed : (text : List ℕ) → Bool
is_computed [] = false
is_computed (octet ∷ octets) = begins_formula octet

abbrev pub is_shielded : CellText → (text : List ℕ) → Bool
is_shielded Shielded text = is_computed text
is_shielded Raw text = false

-- with an apostrophe before it, where it is shielded
abbrev pub cell_text : CellText → (text : List ℕ) → List ℕ
cell_text t text = (if is_shielded t text then 39 ∷ [] else []) ++ text
