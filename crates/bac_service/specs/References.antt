-- Property references: an object, a property, and an optional array index.
use Rattle.std.specs.Prelude.{ℕ, ◌+◌, ◌^◌, ◌<◌, ◌++◌, Option, Some, None}
use Rattle.bac_value.specs.declared.tag.Class.TheVariants.{Context}
use Rattle.bac_value.specs.Value.{ObjectId, IsNumber, IsObject}
use Rattle.bac_value.specs.Number.{unsigned_octets}
use Rattle.bac_value.specs.Writing.{primitive, object_octets}
use Rattle.bac_value.specs.Reading.{number_at, object_at}
use Rattle.bac_value.specs.Views.{object_identifier_view}
use Rattle.bac_service.specs.declared.property.PropertyReference.{PropertyReference}
use Rattle.bac_service.specs.Values.{Reference}
use Rattle.bac_service.specs.Members.{Octets, ◌⨾◌, Optional, Tagged, optional_spelling}
use Rattle.bac_service.specs.Reading.{Read, both_at, made_at, member_at, optional_at}
use Rattle.bac_service.specs.Lengths.{OBJECT_LENGTH, unsigned_length, index_length}

-- [0] ObjectIdentifier, [1] Enumerated property, [2] optional Unsigned array index; an index has at most 4 octets (own rule of this profile)
abbrev pub SpellsReference : Reference → Octets → Type 0
SpellsReference r = Tagged Context 0 (IsObject r.object) ⨾ (Tagged Context 1 (IsNumber 4 r.property) ⨾ Optional (λ i. Tagged Context 2 (IsNumber 4 i)) r.index)

abbrev pub reference_of : ObjectId × (ℕ × Option ℕ) → Reference
reference_of t = record { object = t.0; property = t.1.0; index = t.1.1 }

unfoldable pub reference_at : Octets → Read Reference
reference_at =
    made_at reference_of (both_at (member_at Context 0 object_at)
    (both_at (member_at Context 1 (number_at 9)) (optional_at 2 (member_at Context 2 (number_at 9)))))

abbrev pub reference_spelling : Reference → Octets
reference_spelling r = primitive Context 0 (object_octets r.object) ++ (primitive Context 1 (unsigned_octets r.property) ++ optional_spelling 2 r.index)

abbrev pub reference_length : Reference → ℕ
reference_length r = OBJECT_LENGTH + unsigned_length r.property + index_length r.index

abbrev pub IsIndex : Option ℕ → Type 0
IsIndex None = Unit {0}
IsIndex (Some i) = i < 2 ^ 32

-- the abstract value of the type in code
pub record IsReference (r : Reference) : Type 0 where
  pub kind_fits : r.object.kind < 1024
  pub instance_fits : r.object.instance < 2 ^ 22
  pub property_fits : r.property < 2 ^ 32
  pub index_fits : IsIndex r.index

abbrev pub property_reference_view : PropertyReference → Reference
property_reference_view r = record { object = object_identifier_view r.object; property = r.property; index = r.index }
