-- The laws of AtomicReadFile.
use Rattle.std.proofs.Common.{◌≡◌, ℕ, ℤ, Bool, true, false, ◌++◌, length, IsTrue, Some, Ok, ◌⊎◌, inl, inr, refl, sym, ap, subst, ◌∙◌, arith, lit<}
use Rattle.std.proofs.lemmas.Bool.{eqb-true}
use Rattle.bac_value.proofs.Steps.{bind_ok, ok_is}
use Rattle.bac_value.proofs.Tags.{tag_exact}
use Rattle.bac_value.specs.declared.tag.Class.{Class}
use Rattle.bac_value.specs.declared.tag.Class.TheVariants.{Application, Context}
use Rattle.bac_value.specs.declared.tag.Form.{Form}
use Rattle.bac_value.specs.declared.tag.Form.TheVariants.{Length, Boolean, Opening, Closing}
use Rattle.bac_value.specs.Limits.{tag_fits}
use Rattle.bac_value.specs.Spelling.{Mark, tag_spelling, SpellsTag}
use Rattle.bac_value.specs.Steps.{◌>>=◌}
use Rattle.bac_service.specs.Values.{ReadAccess, Complex}
use Rattle.bac_service.specs.Values.ReadAccess.{ReadStream, ReadRecords}
use Rattle.bac_service.specs.Values.Complex.{FileRead}
use Rattle.bac_service.specs.Members.{Octets, Enclosed, ApplicationBoolean}
use Rattle.bac_service.specs.Reading.{both_at, made_at, next_tag, expected, boolean_of, is_opened, enclosed_at}
use Rattle.bac_service.specs.Files.{extent_at, extent_spelling, extent_length, SpellsContent, content_at, content_spelling}
use Rattle.bac_service.specs.AtomicReadFile.{SpellsReadAccess, read_access_at, read_access_spelling, read_access_length, IsReadAccess}
use Rattle.bac_service.specs.AtomicReadFile.{SpellsFileRead, end_of_file_at, file_read_at, file_read_spelling, file_read_length, IsFileRead}
use Rattle.bac_service.proofs.Exact.{IsExact, Anything, Made, both_exact, made_exact, either_exact}
use Rattle.bac_service.proofs.Heads.{some_is, next_tag_ok, next_tag_again, expected_ok}
use Rattle.bac_service.proofs.Pairs.{enclosed_exact, opened_enclosed}
use Rattle.bac_service.proofs.MemberLengths.{length-enclosed}
use Rattle.bac_service.proofs.Only.{IsOnly, after_only}
use Rattle.bac_service.proofs.Files.{Extent, extent_exact, extent_spelled, length-extent, extent_only}
use Rattle.bac_service.proofs.Files.{Content, content_exact, content_spelled, length-content, content_only}

-- ---- requests

abbrev records_of : ℤ × ℕ → ReadAccess
records_of t = ReadRecords t.0 t.1

abbrev stream_of : ℤ × ℕ → ReadAccess
stream_of t = ReadStream t.0 t.1

abbrev ReadsRecords : ReadAccess → Octets → Type 0
ReadsRecords = Made records_of (λ t. Enclosed 1 (Extent t))

abbrev ReadsStream : ReadAccess → Octets → Type 0
ReadsStream = Made stream_of (λ t. Enclosed 0 (Extent t))

read_told : (a : ReadAccess) (text rest : Octets) → SpellsReadAccess a text → Anything rest
    → (ReadsRecords a text × (is_opened 1 (text ++ rest) ≡ Ok true) × Anything rest) ⊎
    (ReadsStream a text × (is_opened 1 (text ++ rest) ≡ Ok false) × Anything rest)
read_told (ReadStream z n) text rest s f = inr (((z, n), refl, s), opened_enclosed 1 0 (Extent (z, n)) text rest (lit< tt) s, tt)
read_told (ReadRecords z n) text rest s f = inl (((z, n), refl, s), opened_enclosed 1 1 (Extent (z, n)) text rest (lit< tt) s, tt)

pub read_access_exact : IsExact Anything read_access_at SpellsReadAccess
unfolding read_access_at
read_access_exact =
    let one = made_exact Anything records_of (enclosed_at 1 extent_at) (λ t. Enclosed 1 (Extent t))
    (enclosed_exact 1 (lit< tt) Anything extent_at Extent extent_exact (λ rest. tt)) in
    let other = made_exact Anything stream_of (enclosed_at 0 extent_at) (λ t. Enclosed 0 (Extent t))
    (enclosed_exact 0 (lit< tt) Anything extent_at Extent extent_exact (λ rest. tt)) in
    either_exact Anything Anything Anything (is_opened 1) (made_at records_of (enclosed_at 1 extent_at)) (made_at stream_of (enclosed_at 0 extent_at))
    ReadsRecords ReadsStream SpellsReadAccess
    (record {
      one = λ a text p. subst (λ r. SpellsReadAccess r text) p.1 p.2;
      other = λ a text p. subst (λ r. SpellsReadAccess r text) p.1 p.2;
      told = read_told;
    }) one other

pub read_access_spelled : (a : ReadAccess) → IsReadAccess a → SpellsReadAccess a (read_access_spelling a)
read_access_spelled (ReadStream start count) h = record { inside = extent_spelling start count; are = extent_spelled start count h; is = refl }
read_access_spelled (ReadRecords start count) h = record { inside = extent_spelling start count; are = extent_spelled start count h; is = refl }

pub length-read_access : (a : ReadAccess) → length (read_access_spelling a) ≡ read_access_length a
length-read_access (ReadStream start count) = length-enclosed 0 (extent_spelling start count) (extent_length start count) (lit< tt) (length-extent start count)
length-read_access (ReadRecords start count) = length-enclosed 1 (extent_spelling start count) (extent_length start count) (lit< tt) (length-extent start count)

pub read_access_only : (a : ReadAccess) → IsOnly (SpellsReadAccess a)
read_access_only (ReadStream start count) = extent_only 0 start count
read_access_only (ReadRecords start count) = extent_only 1 start count

-- ---- service data of ComplexACKs

boolean_is : (f : Form) (b : Bool) → boolean_of f ≡ Some b → f ≡ Boolean b
boolean_is (Length k) b e = absurd cc
boolean_is (Boolean c) b e = ap Boolean (some_is c b e)
boolean_is Opening b e = absurd cc
boolean_is Closing b e = absurd cc

abbrev boolean_mark : Bool → Mark
boolean_mark b = record { number = 1; class = Application; form = Boolean b }

abbrev of : ℕ → Class → Form → Mark
of n c f = record { number = n; class = c; form = f }

-- only an application tag with number 1 has a value in place of a length
boolean_tag : (n : ℕ) (c : Class) (b : Bool) → IsTrue (tag_fits n c (Boolean b)) → of n c (Boolean b) ≡ boolean_mark b
boolean_tag n Application b fits = rw (eqb-true n 1 fits) refl
boolean_tag n Context b fits = absurd cc

boolean_fields : (n : ℕ) (c : Class) (f : Form) (b : Bool) → f ≡ Boolean b → IsTrue (tag_fits n c f) → of n c f ≡ boolean_mark b
boolean_fields n c f b e fits = ap (of n c) e ∙ boolean_tag n c b (subst (λ (g : Form). IsTrue (tag_fits n c g)) e fits)

end_of_file_exact : IsExact Anything end_of_file_at ApplicationBoolean
unfolding end_of_file_at
end_of_file_exact = record {
  takes = λ bytes x fits e.
      let t = bind_ok (next_tag bytes) (λ t. expected bytes (boolean_of t.0.form) >>= λ b. Ok (b, t.1)) x e in
      let b = bind_ok (expected bytes (boolean_of t.0.0.form)) (λ b. Ok (b, t.0.1)) x t.2 in
      let took = tag_exact.takes bytes t.0 fits (next_tag_ok bytes t.0 t.1) in
      let is_boolean = boolean_is t.0.0.form b.0 (expected_ok bytes (boolean_of t.0.0.form) b.0 b.1) in
      let m = boolean_fields t.0.0.number t.0.0.class t.0.0.form b.0 is_boolean took.2.fits in
      subst (λ (y : Bool × Octets). (text : Octets) × (bytes ≡ text ++ y.1) × ApplicationBoolean y.0 text) (ok_is (b.0, t.0.1) x b.2)
      (took.0, took.1, took.2.is ∙ ap tag_spelling m);
  again = λ y text rest s follows.
      let tag : SpellsTag (boolean_mark y) text = record { fits = refl; length_in = tt; is = s } in
      rw (next_tag_again (text ++ rest) (boolean_mark y, rest) (tag_exact.again (boolean_mark y) text rest tag)) refl;
}

abbrev pub FileReads : Bool × (ℤ × Octets) → Octets → Type 0
FileReads t = SpellsFileRead t.0 t.1.0 t.1.1

abbrev pub file_read_of : Bool × (ℤ × Octets) → Complex
file_read_of t = FileRead t.0 t.1.0 t.1.1

pub file_read_exact : IsExact Anything file_read_at (Made file_read_of FileReads)
unfolding file_read_at
file_read_exact =
    made_exact Anything file_read_of (both_at end_of_file_at content_at) FileReads
    (both_exact Anything Anything end_of_file_at content_at ApplicationBoolean Content end_of_file_exact content_exact
    (λ b text rest q f. tt))

pub file_read_spelled : (end_of_file : Bool) (start : ℤ) (octets : Octets) → IsFileRead start octets
    → SpellsFileRead end_of_file start octets (file_read_spelling end_of_file start octets)
file_read_spelled end_of_file start octets h =
    record { front = _; back = content_spelling start octets; first = refl; second = content_spelled start octets h.0 h.1; is = refl }

pub length-file_read : (end_of_file : Bool) (start : ℤ) (octets : Octets)
    → length (file_read_spelling end_of_file start octets) ≡ file_read_length start (length octets)
unfolding tag_spelling
length-file_read end_of_file start octets = let content = length-content start octets in omega (arith, content)

pub file_read_only : (end_of_file : Bool) (start : ℤ) (octets : Octets) → IsOnly (SpellsFileRead end_of_file start octets)
file_read_only end_of_file start octets =
    after_only (ApplicationBoolean end_of_file) (SpellsContent start octets) (λ a b s t. s ∙ sym t) (content_only start octets)
