-- ReadProperty (clause 15.5): which property is read, and its values.
use Rattle.std.specs.Prelude.{ℕ, ◌+◌, ◌++◌, List}
use Rattle.bac_value.specs.Data.{IsData}
use Rattle.bac_service.specs.declared.read_property.PropertyRead as code_reply
use Rattle.bac_service.specs.Values.{Reference, Request, Complex}
use Rattle.bac_service.specs.Values.Request.{ReadProperty}
use Rattle.bac_service.specs.Values.Complex.{PropertyRead}
use Rattle.bac_service.specs.Members.{Octets, ◌⨾◌, Enclosed, AreData, enclosed_spelling}
use Rattle.bac_service.specs.Reading.{Read, both_at, made_at, enclosed_at, values_at}
use Rattle.bac_service.specs.Lengths.{enclosed_length}
use Rattle.bac_service.specs.References.{SpellsReference, reference_at, reference_spelling, reference_length, IsReference, property_reference_view}

-- ---- requests

abbrev pub read_property_at : Octets → Read Request
read_property_at = made_at ReadProperty reference_at

-- ---- service data of ComplexACKs

abbrev pub SpellsPropertyRead : Reference → Octets → Octets → Type 0
SpellsPropertyRead r values = SpellsReference r ⨾ Enclosed 3 (AreData values)

unfoldable pub property_read_at : Octets → Read Complex
property_read_at = made_at (λ t. PropertyRead t.0 t.1) (both_at reference_at (enclosed_at 3 values_at))

abbrev pub property_read_spelling : Reference → Octets → Octets
property_read_spelling r values = reference_spelling r ++ enclosed_spelling 3 values

abbrev pub property_read_length : Reference → ℕ → ℕ
property_read_length r k = reference_length r + enclosed_length k

-- the abstract value of the type in code
abbrev pub IsPropertyRead : Reference → Octets → Type 0
IsPropertyRead r values = IsReference r × IsData values

abbrev pub property_read_view : {D : Type 0} → (D → List ℕ) → code_reply.PropertyRead D → Complex
property_read_view values r = PropertyRead (property_reference_view r.reference) (values r.values)
