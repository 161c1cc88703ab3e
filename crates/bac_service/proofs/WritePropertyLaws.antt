-- The laws of WriteProperty.
use Rattle.std.proofs.Common.{◌≡◌, ℕ, ◌<◌, ◌≤◌, true, ◌++◌, length, Option, Some, None, refl, ap, ◌∙◌, append_assoc, arith, lit<}
use Rattle.std.proofs.lemmas.Bool.{and_parts, ltb-true}
use Rattle.std.proofs.lemmas.Bool.Decides.{nat_tests}
use Rattle.std.proofs.lemmas.List.{length-append}
use Rattle.bac_value.specs.declared.tag.Class.TheVariants.{Context}
use Rattle.bac_value.specs.Reading.{number_at}
use Rattle.bac_value.specs.Value.{IsNumber}
use Rattle.bac_service.specs.declared.stop.Why.TheVariants.{OutOfRange}
use Rattle.bac_service.specs.Values.{Reference}
use Rattle.bac_service.specs.Members.{Octets, ◌⨾◌, Optional, Enclosed, Tagged, AreData, enclosed_spelling, optional_spelling}
use Rattle.bac_service.specs.Reading.{both_at, member_at, is_next, optional_at, enclosed_at, values_at}
use Rattle.bac_service.specs.References.{SpellsReference, reference_at, reference_spelling}
use Rattle.bac_service.specs.Priorities.{IsPriority, is_priority, priority_at, IsUrgency}
use Rattle.bac_service.specs.WriteProperty.{SpellsWriteProperty, write_property_of, write_property_at}
use Rattle.bac_service.specs.WriteProperty.{write_property_spelling, write_property_length, IsWriteProperty}
use Rattle.bac_service.proofs.Exact.{IsExact, Anything, Differs, Made, That, both_exact, made_exact, same_exact, that_exact, optional_exact}
use Rattle.bac_service.proofs.Heads.{member_exact}
use Rattle.bac_service.proofs.Contents.{long_law}
use Rattle.bac_service.proofs.Pairs.{next_tagged, Enclosing, enclosing_exact, opened_differs}
use Rattle.bac_service.proofs.MembersSpelled.{unsigned_tagged, enclosed_data}
use Rattle.bac_service.proofs.MemberLengths.{length-pair, length-optional}
use Rattle.bac_service.proofs.Only.{IsOnly, after_only, optional_only, tagged_only, number_only, values_only}
use Rattle.bac_service.proofs.References.{reference_exact, reference_spelled, length-reference, reference_only}

-- ---- priorities

in_range : (n : ℕ) → is_priority n ≡ true → (0 < n) × (n ≤ 16)
in_range n t = let p = and_parts _ _ t in (ltb-true 0 n p.0, grind (arith, nat_tests))

range_in : (n : ℕ) → 0 < n → n ≤ 16 → is_priority n ≡ true
range_in n low high = grind (arith, nat_tests)

abbrev Priority : ℕ → Octets → Type 0
Priority n = Tagged Context 4 (IsPriority n)

priority_exact : IsExact Anything priority_at Priority
unfolding priority_at
priority_exact =
    same_exact Anything priority_at (That is_priority (λ n. Tagged Context 4 (IsNumber 8 n))) Priority
    (that_exact Anything OutOfRange is_priority (member_at Context 4 (number_at 2)) (λ n. Tagged Context 4 (IsNumber 8 n))
    (member_exact Context 4 (number_at 2) (IsNumber 8) (λ k. refl) long_law))
    (λ n text p. let r = in_range n p.0 in record {
      contents = p.1.contents;
      are = record { least = r.0; most = r.1; number = p.1.are };
      fits = p.1.fits;
      is = p.1.is;
    })
    (λ n text p. (range_in n p.are.least p.are.most, record { contents = p.contents; are = p.are.number; fits = p.fits; is = p.is }))

abbrev pub Written : Reference × (Octets × Option ℕ) → Octets → Type 0
Written t = SpellsWriteProperty t.0 t.1.0 t.1.1

pub write_exact : IsExact (Differs 4) write_property_at (Made write_property_of Written)
unfolding write_property_at
write_exact =
    let priority = optional_exact 4 priority_at Priority priority_exact (λ y text rest s. next_tagged 4 (IsPriority y) text rest refl s) in
    let behind = both_exact Anything (Differs 4) (enclosed_at 3 values_at) (optional_at 4 priority_at) Enclosing (Optional Priority) enclosing_exact
    priority (λ b text rest q f. tt) in
    let all = both_exact (Differs 2) (Differs 4) reference_at (both_at (enclosed_at 3 values_at) (optional_at 4 priority_at)) SpellsReference
    (λ (t : Octets × Option ℕ). Enclosing t.0 ⨾ Optional Priority t.1) reference_exact behind
    (λ b text rest q f. (ap (λ (t : Octets). is_next 2 (t ++ rest)) q.is ∙ ap (is_next 2) (append_assoc q.front q.back rest))
    ∙ opened_differs 2 3 (AreData b.0) q.front (q.back ++ rest) (lit< tt) q.first) in
    made_exact (Differs 4) write_property_of (both_at reference_at (both_at (enclosed_at 3 values_at) (optional_at 4 priority_at))) Written all

priority_spelled : (priority : Option ℕ) → IsUrgency priority → Optional (λ p. Tagged Context 4 (IsPriority p)) priority (optional_spelling 4 priority)
priority_spelled None h = refl
priority_spelled (Some n) h =
    let low = h.0 in
    let high = h.1 in
    let number = unsigned_tagged Context 4 n (omega (arith, high)) in
    record { contents = number.contents; are = record { least = low; most = high; number = number.are }; fits = number.fits; is = number.is }

pub write_property_spelled : (r : Reference) (values : Octets) (priority : Option ℕ) → IsWriteProperty r values priority
    → SpellsWriteProperty r values priority (write_property_spelling r values priority)
write_property_spelled r values priority h =
    let rest : (Enclosed 3 (AreData values) ⨾ Optional (λ p. Tagged Context 4 (IsPriority p)) priority)
    (enclosed_spelling 3 values ++ optional_spelling 4 priority) =
    record {
      front = enclosed_spelling 3 values;
      back = optional_spelling 4 priority;
      first = enclosed_data values h.1;
      second = priority_spelled priority h.2;
      is = refl;
    } in
    record {
      front = reference_spelling r;
      back = enclosed_spelling 3 values ++ optional_spelling 4 priority;
      first = reference_spelled r h.0;
      second = rest;
      is = refl;
    }

pub length-write_property : (r : Reference) (values : Octets) (priority : Option ℕ)
    → length (write_property_spelling r values priority) ≡ write_property_length r (length values) priority
length-write_property r values priority =
    let front = length-reference r in
    let pair = length-pair 3 values (lit< tt) in
    let back = length-optional 4 priority (lit< tt) in
    let behind = length-append (enclosed_spelling 3 values) (optional_spelling 4 priority) in
    let all = length-append (reference_spelling r) (enclosed_spelling 3 values ++ optional_spelling 4 priority) in
    omega (arith, all, behind, front, pair, back)

priority_only : (n : ℕ) → IsOnly (Tagged Context 4 (IsPriority n))
priority_only n = tagged_only Context 4 (IsPriority n) (λ a b s t. number_only 8 n a b s.number t.number)

pub write_property_only : (r : Reference) (values : Octets) (priority : Option ℕ) → IsOnly (SpellsWriteProperty r values priority)
write_property_only r values priority =
    let last = optional_only (λ (p : ℕ). Tagged Context 4 (IsPriority p)) priority_only priority in
    let rest = after_only (Enclosed 3 (AreData values)) (Optional (λ (p : ℕ). Tagged Context 4 (IsPriority p)) priority) (values_only values) last in
    after_only (SpellsReference r) (Enclosed 3 (AreData values) ⨾ Optional (λ (p : ℕ). Tagged Context 4 (IsPriority p)) priority) (reference_only r) rest
