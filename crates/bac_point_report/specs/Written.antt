-- Values to be written, as people write them.
use Rattle.std.specs.Prelude.{◌≡◌, ℕ, List, Option, Some, None, Result, Ok, Err, ⊤, codes, if◌then◌else◌}
use Rattle.std.specs.Str.{bytes_eq}
use Rattle.bac_value.specs.Element.{Part, SpellsElement, part_spelling}
use Rattle.bac_value.specs.Meaning.{IsValueOf}
use Rattle.bac_value.specs.Value.{Datum}
use Rattle.bac_value.specs.Writing.{value_spelling}
use Rattle.bac_service.specs.Values.{Reference}
use Rattle.bac_point_text.specs.Kinds.{kind_of}
use Rattle.bac_point_text.specs.PropertyNames.{enumeration_of}
use Rattle.bac_point_text.specs.Faults.{bare}
use Rattle.bac_point_text.specs.Written.{written}
use Rattle.bac_point_text.specs.declared.kind.Kind.{Kind}
use Rattle.bac_point_text.specs.declared.kind.Kind.TheVariants as kind
use Rattle.bac_point_text.specs.declared.written_fault.WrittenFault.{WrittenFault}
use Rattle.bac_point_text.specs.declared.written_fault.WrittenFault.TheVariants as fault

-- the only value has that kind
pub record IsOnlyKind (k : Kind) (run : List ℕ) : Type 0 where
  pub value : Datum
  pub element : Part
  pub spelled : SpellsElement element (part_spelling element)
  pub is : run ≡ part_spelling element
  pub means : IsValueOf value element
  pub kind : k ≡ kind_of value

-- ---- the names of kinds

abbrev pub number_kind_named : List ℕ → Option Kind
number_kind_named name =
    if bytes_eq name (codes "null") then Some kind.Null
    else if bytes_eq name (codes "boolean") then Some kind.Boolean
    else if bytes_eq name (codes "unsigned") then Some kind.Unsigned
    else if bytes_eq name (codes "signed") then Some kind.Signed
    else if bytes_eq name (codes "real") then Some kind.Real
    else if bytes_eq name (codes "double") then Some kind.Double
    else if bytes_eq name (codes "enumerated") then Some kind.Enumerated
    else None

abbrev pub string_kind_named : List ℕ → Option Kind
string_kind_named name =
    if bytes_eq name (codes "octets") then Some kind.OctetString
    else if bytes_eq name (codes "text") then Some kind.CharacterString
    else if bytes_eq name (codes "bits") then Some kind.BitString
    else if bytes_eq name (codes "date") then Some kind.Date
    else if bytes_eq name (codes "time") then Some kind.Time
    else if bytes_eq name (codes "object") then Some kind.ObjectIdentifier
    else None

abbrev pub kind_or : Option Kind → Option Kind → Option Kind
kind_or (Some k) otherwise = Some k
kind_or None otherwise = otherwise

abbrev pub kind_named : List ℕ → Option Kind
kind_named name = kind_or (number_kind_named name) (string_kind_named name)

-- ---- the values that are written

-- a value was read, and these are its octets
pub record AreValuesFor (read : Result Datum WrittenFault) (octets : List ℕ) : Type 0 where
  pub value : Datum
  pub means : read ≡ Ok value
  pub are : octets ≡ value_spelling value

-- why there is no value, or an allocation failed; a name that is like an unknown one is left open
abbrev pub IsFaultFor : Result Datum WrittenFault → WrittenFault → Type 0
IsFaultFor read fault.NoMemory = ⊤
IsFaultFor read f = read ≡ Err (bare f)

-- what a text means as a value of that kind of the property
abbrev pub meant : Reference → Kind → (text : List ℕ) → Result Datum WrittenFault
meant r k text = written k (enumeration_of r.object.kind r.property) text
