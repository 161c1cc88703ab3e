-- WriteProperty (clause 15.9): which property, its new values, and an optional priority.
use Rattle.std.specs.Prelude.{ℕ, ◌+◌, ◌++◌, List, Option, Some, None}
use Rattle.bac_value.specs.declared.tag.Class.TheVariants.{Context}
use Rattle.bac_value.specs.Data.{IsData}
use Rattle.bac_service.specs.declared.priority.Priority.{Priority}
use Rattle.bac_service.specs.declared.write_property.WriteProperty as code_request
use Rattle.bac_service.specs.Values.{Reference, Request}
use Rattle.bac_service.specs.Values.Request.{WriteProperty}
use Rattle.bac_service.specs.Members.{Octets, ◌⨾◌, Optional, Enclosed, Tagged, AreData, enclosed_spelling, optional_spelling}
use Rattle.bac_service.specs.Reading.{Read, both_at, made_at, optional_at, enclosed_at, values_at}
use Rattle.bac_service.specs.Priorities.{IsPriority, priority_at, IsUrgency}
use Rattle.bac_service.specs.Lengths.{enclosed_length, index_length}
use Rattle.bac_service.specs.References.{SpellsReference, reference_at, reference_spelling, reference_length, IsReference, property_reference_view}

abbrev pub priority_view : Option Priority → Option ℕ
priority_view None = None
priority_view (Some p) = Some p.number

-- ---- requests

abbrev pub SpellsWriteProperty : Reference → Octets → Option ℕ → Octets → Type 0
SpellsWriteProperty r values priority =
    SpellsReference r ⨾ (Enclosed 3 (AreData values) ⨾ Optional (λ p. Tagged Context 4 (IsPriority p)) priority)

abbrev pub write_property_of : Reference × (Octets × Option ℕ) → Request
write_property_of t = WriteProperty t.0 t.1.0 t.1.1

unfoldable pub write_property_at : Octets → Read Request
write_property_at = made_at write_property_of (both_at reference_at (both_at (enclosed_at 3 values_at) (optional_at 4 priority_at)))

abbrev pub write_property_spelling : Reference → Octets → Option ℕ → Octets
write_property_spelling r values priority = reference_spelling r ++ (enclosed_spelling 3 values ++ optional_spelling 4 priority)

abbrev pub write_property_length : Reference → ℕ → Option ℕ → ℕ
write_property_length r k priority = reference_length r + enclosed_length k + index_length priority

-- the abstract value of the type in code
abbrev pub IsWriteProperty : Reference → Octets → Option ℕ → Type 0
IsWriteProperty r values priority = IsReference r × IsData values × IsUrgency priority

abbrev pub write_property_view : {D : Type 0} → (D → List ℕ) → code_request.WriteProperty D → Request
write_property_view values w = WriteProperty (property_reference_view w.reference) (values w.values) (priority_view w.priority)
