-- Which enumeration a property has: the table in code.
use Rattle.std.specs.Prelude.{ℕ, Bool, ◌&&◌, ◌||◌, List, [], Option, unwrap_or, codes}
use Rattle.std.specs.List.{find}
use Rattle.std.specs.Str.{bytes_eq}
use Rattle.std.specs.Str.Lines.{lines}
use Rattle.bac_value_text.specs.Names as rows
use Rattle.bac_value_text.specs.Numbers.{◌>>=◌}
use Rattle.bac_value_text.specs.ObjectTypes.{OBJECT_TYPES}
use Rattle.bac_value_text.specs.Properties.{PROPERTIES}
use Rattle.bac_point_text.specs.Enumerations.{Names, named}
use Rattle.bac_point_text.specs.Lines.{front, behind}
use Rattle.bac_point_text.specs.declared.property_names.TheConstants as code

-- the lines `TYPE PROPERTY ENUMERATION`
unfoldable pub LINES : List (List ℕ)
LINES = lines code.PROPERTIES.now

-- the first word of a line is for objects of this type
abbrev pub is_scope : (kind word : List ℕ) → Bool
is_scope kind word = bytes_eq word (codes "any") || bytes_eq word kind

-- a line is for this property of objects of this type
abbrev pub is_for : (kind property line : List ℕ) → Bool
is_for kind property line = is_scope kind (front line) && bytes_eq (front (behind line)) property

abbrev pub type_word : ℕ → List ℕ
type_word kind = unwrap_or (rows.name_in OBJECT_TYPES kind) []

-- the enumeration in the first line for a property with a name
abbrev pub in_lines : (kind property : List ℕ) → Option Names
in_lines kind property = find (is_for kind property) LINES >>= (λ line. named (behind (behind line)))

-- the enumeration of a property
abbrev pub enumeration_of : (kind property : ℕ) → Option Names
enumeration_of kind property = rows.name_in PROPERTIES property >>= in_lines (type_word kind)
