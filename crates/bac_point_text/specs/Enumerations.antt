-- The enumerations of the standard (clause 21): tables in code, and the object types and properties, whose tables stand in bac_value_text.
use Rattle.std.specs.Prelude.{ℕ, Bool, List, [], ◌∷◌, map, Option, Some, None, codes, if◌then◌else◌}
use Rattle.std.specs.List.{filter_map, find, flat_map, list_any, range_with_len}
use Rattle.std.specs.Option.{option_map}
use Rattle.std.specs.Str.{bytes_eq}
use Rattle.std.specs.Str.Lines.{lines}
use Rattle.bac_value_text.specs.Names as rows
use Rattle.bac_value_text.specs.ObjectTypes.{OBJECT_TYPES}
use Rattle.bac_value_text.specs.Properties.{PROPERTIES}
use Rattle.bac_point_text.specs.Lines as line
use Rattle.bac_point_text.specs.declared.names.TheConstants as code

-- an enumeration: one of the two, or one that has a table of lines `NUMBER NAME` behind a heading
pub data Names : Type 0 where
  object_types : Names
  properties : Names
  listed : (table : List ℕ) → Names

-- all tables
unfoldable pub TABLES : List (List ℕ)
TABLES = map (λ t. t.now) code.TABLES.now

abbrev pub is_table : List ℕ → Bool
is_table table = list_any (λ t. bytes_eq t table) TABLES

abbrev pub word_of : Names → List ℕ
word_of object_types = codes "object-type"
word_of properties = codes "property-identifier"
word_of (listed table) = line.heading table

abbrev pub has_heading : (word table : List ℕ) → Bool
has_heading word table = bytes_eq (line.heading table) word

-- the enumeration with this word
abbrev pub named : (word : List ℕ) → Option Names
named word =
    if bytes_eq word (codes "object-type") then Some object_types
    else (if bytes_eq word (codes "property-identifier") then Some properties
    else option_map listed (find (has_heading word) TABLES))

abbrev pub name_of : Names → ℕ → Option (List ℕ)
name_of object_types number = rows.name_in OBJECT_TYPES number
name_of properties number = rows.name_in PROPERTIES number
name_of (listed table) number = line.name_in table number

abbrev pub number_of : Names → (name : List ℕ) → Option ℕ
number_of object_types name = rows.number_in OBJECT_TYPES name
number_of properties name = rows.number_in PROPERTIES name
number_of (listed table) name = line.number_in table name

-- ---- all names

-- a number with its name, if it has one
abbrev pub row_with : (number : ℕ) → (name : Option (List ℕ)) → List (ℕ × List ℕ)
row_with number None = []
row_with number (Some name) = (number, name) ∷ []

abbrev pub rows_at : Names → (number : ℕ) → List (ℕ × List ℕ)
rows_at e number = row_with number (name_of e number)

-- numbers among which are all that have a name
abbrev pub numbers_of : Names → List ℕ
numbers_of object_types = range_with_len 0 1024
numbers_of properties = range_with_len 0 1024
numbers_of (listed table) = filter_map line.number_part (lines table)

abbrev pub rows_of : Names → List (ℕ × List ℕ)
rows_of e = flat_map (rows_at e) (numbers_of e)
