-- The laws of AtomicWriteFile.
use Rattle.std.proofs.Common.{◌≡◌, ℕ, ℤ, ◌+◌, ◌<◌, ◌^◌, true, false, ◌++◌, length, Ok, ◌⊎◌, inl, inr, refl, sym, ap, subst, ◌∙◌, append_assoc, lit<}
use Rattle.std.proofs.lemmas.Bool.{eqb-true, eq-eqb}
use Rattle.std.proofs.lemmas.List.{length-append}
use Rattle.bac_value.specs.declared.tag.Class.TheVariants.{Application, Context}
use Rattle.bac_value.specs.Number.{unsigned_octets, signed_octets, distance}
use Rattle.bac_value.specs.Reading.{signed_at}
use Rattle.bac_value.specs.Value.{IsInteger}
use Rattle.bac_value.specs.Writing.{primitive}
use Rattle.bac_service.specs.declared.stop.Why.TheVariants.{Inconsistent}
use Rattle.bac_service.specs.Values.{WriteAccess, Complex}
use Rattle.bac_service.specs.Values.WriteAccess.{WriteStream, WriteRecords}
use Rattle.bac_service.specs.Values.Complex.{StreamWritten, RecordsWritten}
use Rattle.bac_service.specs.Members.{Octets, ◌⨾◌, Enclosed, ApplicationSigned, ApplicationUnsigned, ApplicationString}
use Rattle.bac_service.specs.Reading.{both_at, made_at, member_at, is_next, is_opened, enclosed_at, that_at, application_signed, application_unsigned}
use Rattle.bac_service.specs.Lengths.{signed_length}
use Rattle.bac_service.specs.Runs.{AreStrings, run_at}
use Rattle.bac_service.specs.Files.{extent_spelling, extent_length, IsExtent, content_at}
use Rattle.bac_service.specs.AtomicWriteFile.{AreRecords, SpellsWriteAccess, counted_at, are_counted, write_access_at, write_access_spelling}
use Rattle.bac_service.specs.AtomicWriteFile.{write_access_length, IsWriteAccess, IsWritten, SpellsPosition, file_written_at, position_spelling}
use Rattle.bac_service.proofs.Exact.{IsExact, Anything, Made, That, both_exact, made_exact, that_exact, either_exact}
use Rattle.bac_service.proofs.Heads.{member_exact}
use Rattle.bac_service.proofs.Contents.{signed_law, signed_exact, unsigned_exact}
use Rattle.bac_service.proofs.Pairs.{next_tagged, next_other, enclosed_exact, opened_enclosed}
use Rattle.bac_service.proofs.Strings.{NoString, no_string_closing, Run, run_exact}
use Rattle.bac_service.proofs.MembersSpelled.{signed_tagged, unsigned_tagged}
use Rattle.bac_service.proofs.MemberLengths.{length-enclosed, length-integer}
use Rattle.bac_service.proofs.Only.{IsOnly, after_only, enclosed_only, tagged_only, integer_only, signed_member_only, unsigned_member_only}
use Rattle.bac_service.proofs.Files.{Content, content_exact, content_spelled, length-content, content_only, length-extent}

-- ---- requests

abbrev Counted : ℤ × (ℕ × (ℕ × Octets)) → Octets → Type 0
Counted t = ApplicationSigned t.0 ⨾ (ApplicationUnsigned t.1.0 ⨾ Run t.1.1)

counted_exact : IsExact NoString counted_at Counted
unfolding counted_at
counted_exact =
    let behind = both_exact Anything NoString application_unsigned run_at ApplicationUnsigned Run unsigned_exact run_exact (λ b text rest q f. tt) in
    both_exact Anything NoString application_signed (both_at application_unsigned run_at) ApplicationSigned
    (λ (t : ℕ × (ℕ × Octets)). ApplicationUnsigned t.0 ⨾ Run t.1) signed_exact behind (λ b text rest q f. tt)

abbrev written_records : ℤ × (ℕ × (ℕ × Octets)) → WriteAccess
written_records t = WriteRecords t.0 t.1.0 t.1.1.1

abbrev written_stream : ℤ × Octets → WriteAccess
written_stream t = WriteStream t.0 t.1

abbrev WritesRecords : WriteAccess → Octets → Type 0
WritesRecords = Made written_records (That are_counted (λ t. Enclosed 1 (Counted t)))

abbrev WritesStream : WriteAccess → Octets → Type 0
WritesStream = Made written_stream Content

records_to : (a : WriteAccess) (text : Octets) → WritesRecords a text → SpellsWriteAccess a text
records_to a text (t, make, (counted, s)) =
    let e = s.are in
    let same : t.1.0 ≡ t.1.1.0 = eqb-true _ _ counted in
    let run : AreRecords t.1.0 t.1.1.1 e.second.back =
    record { strings = subst (λ (m : ℕ). AreStrings m t.1.1.1) (sym same) e.second.second.0; is = e.second.second.1 } in
    subst (λ r. SpellsWriteAccess r text) make
    (record {
      inside = s.inside;
      are = record {
        front = e.front;
        back = e.back;
        first = e.first;
        second = record { front = e.second.front; back = e.second.back; first = e.second.first; second = run; is = e.second.is };
        is = e.is;
      };
      is = s.is;
    })

write_told : (a : WriteAccess) (text rest : Octets) → SpellsWriteAccess a text → Anything rest
    → (WritesRecords a text × (is_opened 1 (text ++ rest) ≡ Ok true) × Anything rest) ⊎
    (WritesStream a text × (is_opened 1 (text ++ rest) ≡ Ok false) × Anything rest)
write_told (WriteStream z octets) text rest s f = inr (((z, octets), refl, s), opened_enclosed 1 0 (ApplicationSigned z ⨾ ApplicationString octets) text rest (lit< tt) s, tt)
write_told (WriteRecords z n run) text rest s f =
    let e = s.are in
    let counted : Enclosed 1 (Counted (z, (n, (n, run)))) text =
    record {
      inside = s.inside;
      are = record {
        front = e.front;
        back = e.back;
        first = e.first;
        second = record {
          front = e.second.front;
          back = e.second.back;
          first = e.second.first;
          second = (e.second.second.strings, e.second.second.is);
          is = e.second.is;
        };
        is = e.is;
      };
      is = s.is;
    } in
    inl (((z, (n, (n, run))), refl, (eq-eqb n n refl, counted)), opened_enclosed 1 1 (Counted (z, (n, (n, run)))) text rest (lit< tt) counted, tt)

pub write_access_exact : IsExact Anything write_access_at SpellsWriteAccess
unfolding write_access_at
write_access_exact =
    let records = enclosed_exact 1 (lit< tt) NoString counted_at Counted counted_exact (λ rest. no_string_closing 1 rest (lit< tt)) in
    let counted = that_exact Anything Inconsistent are_counted (enclosed_at 1 counted_at) (λ t. Enclosed 1 (Counted t)) records in
    let one = made_exact Anything written_records (that_at Inconsistent are_counted (enclosed_at 1 counted_at)) (That are_counted (λ t. Enclosed 1 (Counted t)))
    counted in
    let other = made_exact Anything written_stream content_at Content content_exact in
    either_exact Anything Anything Anything (is_opened 1) (made_at written_records (that_at Inconsistent are_counted (enclosed_at 1 counted_at)))
    (made_at written_stream content_at) WritesRecords WritesStream SpellsWriteAccess
    (record { one = records_to; other = λ a text p. subst (λ r. SpellsWriteAccess r text) p.1 p.2; told = write_told }) one other

records_spelled : (start : ℤ) (count : ℕ) (run : Octets) → IsExtent start count → AreStrings count run
    → (ApplicationSigned start ⨾ (ApplicationUnsigned count ⨾ AreRecords count run)) (extent_spelling start count ++ run)
records_spelled start count run h strings =
    let first = primitive Application 3 (signed_octets start) in
    let number = primitive Application 2 (unsigned_octets count) in
    let rest : (ApplicationUnsigned count ⨾ AreRecords count run) (number ++ run) =
    record {
      front = number;
      back = run;
      first = unsigned_tagged Application 2 count h.count_fits;
      second = record { strings = strings; is = refl };
      is = refl;
    } in
    record { front = first; back = number ++ run; first = signed_tagged Application 3 start h.start_fits; second = rest; is = append_assoc first number run }

pub write_access_spelled : (a : WriteAccess) → IsWriteAccess a → SpellsWriteAccess a (write_access_spelling a)
write_access_spelled (WriteStream start octets) h = content_spelled start octets h.0 h.1
write_access_spelled (WriteRecords start count run) h =
    record { inside = extent_spelling start count ++ run; are = records_spelled start count run h.0 h.1; is = refl }

pub length-write_access : (a : WriteAccess) → length (write_access_spelling a) ≡ write_access_length a
length-write_access (WriteStream start octets) = length-content start octets
length-write_access (WriteRecords start count run) =
    length-enclosed 1 (extent_spelling start count ++ run) (extent_length start count + length run) (lit< tt)
    (length-append (extent_spelling start count) run ∙ ap (λ (n : ℕ). n + length run) (length-extent start count))

records_only : (count : ℕ) (run : Octets) → IsOnly (AreRecords count run)
records_only count run a b s t = s.is ∙ sym t.is

pub write_access_only : (a : WriteAccess) → IsOnly (SpellsWriteAccess a)
write_access_only (WriteStream start octets) = content_only start octets
write_access_only (WriteRecords start count run) =
    let counted = after_only (ApplicationUnsigned count) (AreRecords count run) (unsigned_member_only count) (records_only count run) in
    enclosed_only 1 (ApplicationSigned start ⨾ (ApplicationUnsigned count ⨾ AreRecords count run))
    (after_only (ApplicationSigned start) (ApplicationUnsigned count ⨾ AreRecords count run) (signed_member_only start) counted)

-- the octets for a file and the records of a request are those that are spelled
pub written_is : (w : WriteAccess) (bytes : Octets) → SpellsWriteAccess w bytes → IsWritten w
written_is (WriteStream start octets) bytes s = let string = s.are.second in subst (λ (xs : Octets). length xs < 2 ^ 32) string.are string.fits
written_is (WriteRecords start count run) bytes s = ∣ s.are.second.second.strings ∣₁

-- ---- service data of ComplexACKs

-- [0] and [1] of the ComplexACK of AtomicWriteFile
abbrev pub IsPlace : Complex → Octets → Type 0
IsPlace c text = Made RecordsWritten (SpellsPosition 1) c text ⊎ Made StreamWritten (SpellsPosition 0) c text

next_stream : (z : ℤ) (text rest : Octets) → SpellsPosition 0 z text → is_next 1 (text ++ rest) ≡ Ok false
next_stream z text rest s = next_other 1 0 (IsInteger 8 z) text rest refl refl s

written_told : (c : Complex) (text rest : Octets) → IsPlace c text → Anything rest
    → (Made RecordsWritten (SpellsPosition 1) c text × (is_next 1 (text ++ rest) ≡ Ok true) × Anything rest) ⊎
    (Made StreamWritten (SpellsPosition 0) c text × (is_next 1 (text ++ rest) ≡ Ok false) × Anything rest)
written_told c text rest (inl (z, make, s)) f = inl ((z, make, s), next_tagged 1 (IsInteger 8 z) text rest refl s, tt)
written_told c text rest (inr (z, make, s)) f = inr ((z, make, s), next_stream z text rest s, tt)

pub written_exact : IsExact Anything file_written_at IsPlace
unfolding file_written_at
written_exact =
    let one = made_exact Anything RecordsWritten (member_at Context 1 signed_at) (SpellsPosition 1)
    (member_exact Context 1 signed_at (IsInteger 8) (λ k. refl) signed_law) in
    let other = made_exact Anything StreamWritten (member_at Context 0 signed_at) (SpellsPosition 0)
    (member_exact Context 0 signed_at (IsInteger 8) (λ k. refl) signed_law) in
    either_exact Anything Anything Anything (is_next 1) (made_at RecordsWritten (member_at Context 1 signed_at))
    (made_at StreamWritten (member_at Context 0 signed_at)) (Made RecordsWritten (SpellsPosition 1)) (Made StreamWritten (SpellsPosition 0)) IsPlace
    (record { one = λ a text p. inl p; other = λ a text p. inr p; told = written_told }) one other

pub position_spelled : (number : ℕ) (start : ℤ) → distance start < 2 ^ 63 → SpellsPosition number start (position_spelling number start)
position_spelled number start lt = signed_tagged Context number start lt

pub length-position : (number : ℕ) (start : ℤ) → number < 15 → length (position_spelling number start) ≡ signed_length start
length-position number start lt = length-integer Context number start lt

pub position_only : (number : ℕ) (start : ℤ) → IsOnly (SpellsPosition number start)
position_only number start = tagged_only Context number (IsInteger 8 start) (integer_only 8 start)
