-- The laws of ReadProperty.
use Rattle.std.proofs.Common.{◌≡◌, length, refl, arith, lit<}
use Rattle.std.proofs.lemmas.List.{length-append}
use Rattle.bac_service.specs.Values.{Reference, Complex}
use Rattle.bac_service.specs.Values.Complex.{PropertyRead}
use Rattle.bac_service.specs.Members.{Octets, Enclosed, AreData, enclosed_spelling}
use Rattle.bac_service.specs.Reading.{both_at, enclosed_at, values_at}
use Rattle.bac_service.specs.References.{SpellsReference, reference_at, reference_spelling}
use Rattle.bac_service.specs.ReadProperty.{SpellsPropertyRead, property_read_at, property_read_spelling, property_read_length, IsPropertyRead}
use Rattle.bac_service.proofs.Exact.{IsExact, Anything, Differs, Made, both_exact, made_exact}
use Rattle.bac_service.proofs.Pairs.{Enclosing, enclosing_exact, opened_differs}
use Rattle.bac_service.proofs.MembersSpelled.{enclosed_data}
use Rattle.bac_service.proofs.MemberLengths.{length-pair}
use Rattle.bac_service.proofs.Only.{IsOnly, after_only, values_only}
use Rattle.bac_service.proofs.References.{reference_exact, reference_spelled, length-reference, reference_only}

abbrev pub PropertyReads : Reference × Octets → Octets → Type 0
PropertyReads t = SpellsPropertyRead t.0 t.1

abbrev pub property_read_of : Reference × Octets → Complex
property_read_of t = PropertyRead t.0 t.1

pub property_read_exact : IsExact Anything property_read_at (Made property_read_of PropertyReads)
unfolding property_read_at
property_read_exact =
    made_exact Anything property_read_of (both_at reference_at (enclosed_at 3 values_at)) PropertyReads
    (both_exact (Differs 2) Anything reference_at (enclosed_at 3 values_at) SpellsReference Enclosing reference_exact enclosing_exact
    (λ b text rest q f. opened_differs 2 3 (AreData b) text rest (lit< tt) q))

pub property_read_spelled : (r : Reference) (values : Octets) → IsPropertyRead r values → SpellsPropertyRead r values (property_read_spelling r values)
property_read_spelled r values h =
    record { front = reference_spelling r; back = enclosed_spelling 3 values; first = reference_spelled r h.0; second = enclosed_data values h.1; is = refl }

pub length-property_read : (r : Reference) (values : Octets) → length (property_read_spelling r values) ≡ property_read_length r (length values)
length-property_read r values =
    let front = length-reference r in
    let pair = length-pair 3 values (lit< tt) in
    let all = length-append (reference_spelling r) (enclosed_spelling 3 values) in
    omega (arith, all, front, pair)

pub property_read_only : (r : Reference) (values : Octets) → IsOnly (SpellsPropertyRead r values)
property_read_only r values = after_only (SpellsReference r) (Enclosed 3 (AreData values)) (reference_only r) (values_only values)
