-- The abstract values of the types in code, as contracts use them.
use Rattle.std.specs.Prelude.{ℕ, List, take, drop}
use Rattle.bac_value.specs.declared.tag.Tag.{Tag}
use Rattle.bac_value.specs.declared.value.Value.{Value}
use Rattle.bac_value.specs.declared.value.Value.TheVariants as value
use Rattle.bac_value.specs.declared.value.ObjectIdentifier.{ObjectIdentifier}
use Rattle.bac_value.specs.declared.element.Element.{Element}
use Rattle.bac_value.specs.declared.parts.Parts.{Parts}
use Rattle.bac_value.specs.Octets.{joined}
use Rattle.bac_value.specs.Spelling.{Mark}
use Rattle.bac_value.specs.Element.{Part}
use Rattle.bac_value.specs.Value.{Datum, ObjectId, null, boolean, unsigned, signed, real, double, octets, characters, bits, enumerated}
use Rattle.bac_value.specs.Value.{date, time, object}

abbrev pub tag_view : Tag → Mark
tag_view t = record { number = t.number; class = t.class; form = t.form }

abbrev pub element_view : {R : Type 0} → (R → List ℕ) → Element R → Part
element_view octets_of e = record { mark = tag_view e.tag; contents = octets_of e.contents }

abbrev pub object_identifier_view : ObjectIdentifier → ObjectId
object_identifier_view i = record { kind = i.kind; instance = i.instance }

abbrev pub value_view : Value → Datum
value_view value.Null = null
value_view (value.Boolean b) = boolean b
value_view (value.Unsigned n) = unsigned n
value_view (value.Signed z) = signed z
value_view (value.Real a) = real a
value_view (value.Double a) = double a
value_view (value.OctetString s) = octets s.octets.items
value_view (value.CharacterString s) = characters s.set s.text.items
value_view (value.BitString s) = bits s.unused s.octets.items
value_view (value.Enumerated n) = enumerated n
value_view (value.Date a) = date a
value_view (value.Time a) = time a
value_view (value.ObjectIdentifier i) = object (object_identifier_view i)

-- the octets that are left of pieces
abbrev pub parts_view : Parts → List ℕ
parts_view p = take p.len (drop p.skip (joined p.parts.now))
