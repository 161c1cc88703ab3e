-- The abstract values of the types in code, as contracts use them.
use Rattle.std.specs.Prelude.{ℕ, List, Option}
use Rattle.std.specs.Option.{option_map}
use Rattle.bac_point_text.specs.declared.enumeration.Enumeration.{Enumeration}
use Rattle.bac_point_text.specs.declared.enumeration.Enumeration.TheVariants as enumeration
use Rattle.bac_point_text.specs.declared.enumeration.NamedNumber.{NamedNumber}
use Rattle.bac_point_text.specs.Enumerations.{Names, object_types, properties, listed}

abbrev pub names_view : Enumeration → Names
names_view enumeration.ObjectType = object_types
names_view enumeration.PropertyIdentifier = properties
names_view (enumeration.Listed l) = listed l.table.now

abbrev pub maybe_names : Option Enumeration → Option Names
maybe_names names = option_map names_view names

-- a number and its name
abbrev pub row_view : NamedNumber → ℕ × List ℕ
row_view row = (row.number, row.name.now)
