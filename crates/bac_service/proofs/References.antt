-- The laws of property references.
use Rattle.std.proofs.Common.{◌≡◌, ℕ, ◌++◌, length, Option, Some, None, refl, subst, lit<, arith}
use Rattle.std.proofs.lemmas.List.{length-append}
use Rattle.bac_value.specs.declared.tag.Class.TheVariants.{Context}
use Rattle.bac_value.specs.Value.{ObjectId, IsNumber, IsObject}
use Rattle.bac_value.specs.Number.{unsigned_octets}
use Rattle.bac_value.specs.Writing.{primitive, object_octets}
use Rattle.bac_value.specs.Reading.{number_at, object_at}
use Rattle.bac_service.specs.Values.{Reference}
use Rattle.bac_service.specs.Members.{Octets, ◌⨾◌, Optional, Tagged, optional_spelling}
use Rattle.bac_service.specs.Reading.{both_at, optional_at, member_at}
use Rattle.bac_service.specs.References.{SpellsReference, reference_of, reference_at, reference_spelling, reference_length, IsIndex, IsReference}
use Rattle.bac_service.proofs.Exact.{IsExact, Anything, Differs, Made, both_exact, made_exact, same_exact, optional_exact}
use Rattle.bac_service.proofs.Heads.{member_exact}
use Rattle.bac_service.proofs.Contents.{object_law, short_law}
use Rattle.bac_service.proofs.Pairs.{next_tagged}
use Rattle.bac_service.proofs.MembersSpelled.{short_tagged, object_tagged}
use Rattle.bac_service.proofs.MemberLengths.{length-object, length-number, length-optional}
use Rattle.bac_service.proofs.Only.{IsOnly, after_only, optional_only, tagged_only, object_only, short_only}

abbrev Named : ObjectId × (ℕ × Option ℕ) → Octets → Type 0
Named t = Tagged Context 0 (IsObject t.0) ⨾ (Tagged Context 1 (IsNumber 4 t.1.0) ⨾ Optional (λ i. Tagged Context 2 (IsNumber 4 i)) t.1.1)

pub reference_exact : IsExact (Differs 2) reference_at SpellsReference
unfolding reference_at
reference_exact =
    let object = member_exact Context 0 object_at IsObject (λ k. refl) object_law in
    let property = member_exact Context 1 (number_at 9) (IsNumber 4) (λ k. refl) short_law in
    let index = optional_exact 2 (member_at Context 2 (number_at 9)) (λ i. Tagged Context 2 (IsNumber 4 i))
    (member_exact Context 2 (number_at 9) (IsNumber 4) (λ k. refl) short_law)
    (λ y text rest s. next_tagged 2 (IsNumber 4 y) text rest refl s) in
    let rest = both_exact Anything (Differs 2) (member_at Context 1 (number_at 9)) (optional_at 2 (member_at Context 2 (number_at 9)))
    (λ p. Tagged Context 1 (IsNumber 4 p)) (Optional (λ i. Tagged Context 2 (IsNumber 4 i))) property index (λ b text rest q f. tt) in
    let all = both_exact Anything (Differs 2) (member_at Context 0 object_at)
    (both_at (member_at Context 1 (number_at 9)) (optional_at 2 (member_at Context 2 (number_at 9)))) (λ o. Tagged Context 0 (IsObject o))
    (λ (t : ℕ × Option ℕ). Tagged Context 1 (IsNumber 4 t.0) ⨾ Optional (λ i. Tagged Context 2 (IsNumber 4 i)) t.1) object rest (λ b text rest q f. tt) in
    same_exact (Differs 2) reference_at (Made reference_of Named) SpellsReference
    (made_exact (Differs 2) reference_of (both_at (member_at Context 0 object_at)
    (both_at (member_at Context 1 (number_at 9)) (optional_at 2 (member_at Context 2 (number_at 9))))) Named all)
    (λ a text p. subst (λ r. SpellsReference r text) p.1 p.2) (λ b text s. ((b.object, (b.property, b.index)), refl, s))

index_spelled : (index : Option ℕ) → IsIndex index → Optional (λ i. Tagged Context 2 (IsNumber 4 i)) index (optional_spelling 2 index)
index_spelled None h = refl
index_spelled (Some i) h = short_tagged 2 i h

pub reference_spelled : (r : Reference) → IsReference r → SpellsReference r (reference_spelling r)
reference_spelled r h =
    let property : Tagged Context 1 (IsNumber 4 r.property) (primitive Context 1 (unsigned_octets r.property)) = short_tagged 1 r.property h.property_fits in
    let index = index_spelled r.index h.index_fits in
    let rest : (Tagged Context 1 (IsNumber 4 r.property) ⨾ Optional (λ i. Tagged Context 2 (IsNumber 4 i)) r.index)
    (primitive Context 1 (unsigned_octets r.property) ++ optional_spelling 2 r.index) =
    record { front = primitive Context 1 (unsigned_octets r.property); back = optional_spelling 2 r.index; first = property; second = index; is = refl } in
    record {
      front = primitive Context 0 (object_octets r.object);
      back = primitive Context 1 (unsigned_octets r.property) ++ optional_spelling 2 r.index;
      first = object_tagged Context 0 r.object h.kind_fits h.instance_fits;
      second = rest;
      is = refl;
    }

pub length-reference : (r : Reference) → length (reference_spelling r) ≡ reference_length r
length-reference r =
    let object = length-object Context 0 r.object (lit< tt) in
    let property = length-number Context 1 r.property (lit< tt) in
    let index = length-optional 2 r.index (lit< tt) in
    let behind = length-append (primitive Context 1 (unsigned_octets r.property)) (optional_spelling 2 r.index) in
    let all = length-append (primitive Context 0 (object_octets r.object)) (primitive Context 1 (unsigned_octets r.property) ++ optional_spelling 2 r.index) in
    omega (arith, all, behind, object, property, index)

pub reference_only : (r : Reference) → IsOnly (SpellsReference r)
reference_only r =
    let index = optional_only (λ (i : ℕ). Tagged Context 2 (IsNumber 4 i)) (λ i. short_only 2 i) r.index in
    let rest = after_only (Tagged Context 1 (IsNumber 4 r.property)) (Optional (λ (i : ℕ). Tagged Context 2 (IsNumber 4 i)) r.index)
    (short_only 1 r.property) index in
    after_only (Tagged Context 0 (IsObject r.object))
    (Tagged Context 1 (IsNumber 4 r.property) ⨾ Optional (λ (i : ℕ). Tagged Context 2 (IsNumber 4 i)) r.index)
    (tagged_only Context 0 (IsObject r.object) (object_only r.object)) rest
