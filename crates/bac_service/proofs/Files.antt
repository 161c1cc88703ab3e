-- The laws of what both file services share: the file, a part of it, and octets at a position.
use Rattle.std.proofs.Common.{◌≡◌, ℕ, ℤ, ◌+◌, ◌<◌, ◌^◌, ◌++◌, length, refl, arith, lit<}
use Rattle.std.proofs.lemmas.List.{length-append}
use Rattle.bac_value.specs.declared.tag.Class.TheVariants.{Application}
use Rattle.bac_value.specs.Value.{ObjectId}
use Rattle.bac_value.specs.Number.{unsigned_octets, signed_octets, distance}
use Rattle.bac_value.specs.Writing.{primitive, object_octets}
use Rattle.bac_service.specs.Values.{Request}
use Rattle.bac_service.specs.Members.{Octets, ◌⨾◌, Enclosed, ApplicationObject, ApplicationSigned, ApplicationUnsigned, ApplicationString}
use Rattle.bac_service.specs.Reading.{Read, both_at, application_object, application_signed, application_unsigned, application_string}
use Rattle.bac_service.specs.Lengths.{OBJECT_LENGTH}
use Rattle.bac_service.specs.Files.{file_at, file_spelling, IsFile, SpellsExtent, extent_at, extent_spelling, extent_length, IsExtent}
use Rattle.bac_service.specs.Files.{SpellsContent, content_at, content_spelling, content_length}
use Rattle.bac_service.proofs.Exact.{IsExact, Anything, Made, both_exact, made_exact}
use Rattle.bac_service.proofs.Contents.{object_exact, signed_exact, unsigned_exact, string_exact}
use Rattle.bac_service.proofs.Pairs.{enclosed_exact}
use Rattle.bac_service.proofs.MembersSpelled.{object_tagged, signed_tagged, unsigned_tagged}
use Rattle.bac_service.proofs.MemberLengths.{length-primitive, length-number, length-integer, length-object, length-pair}
use Rattle.bac_service.proofs.Only.{IsOnly, after_only, enclosed_only, signed_member_only, unsigned_member_only, string_member_only}

abbrev pub Extent : ℤ × ℕ → Octets → Type 0
Extent t = ApplicationSigned t.0 ⨾ ApplicationUnsigned t.1

pub extent_exact : IsExact Anything extent_at Extent
extent_exact = both_exact Anything Anything application_signed application_unsigned ApplicationSigned ApplicationUnsigned signed_exact unsigned_exact
    (λ b text rest q f. tt)

abbrev pub Content : ℤ × Octets → Octets → Type 0
Content t = SpellsContent t.0 t.1

abbrev At : ℤ × Octets → Octets → Type 0
At t = ApplicationSigned t.0 ⨾ ApplicationString t.1

pub content_exact : IsExact Anything content_at Content
content_exact =
    let inside = both_exact Anything Anything application_signed application_string ApplicationSigned ApplicationString signed_exact string_exact
    (λ b text rest q f. tt) in
    enclosed_exact 0 (lit< tt) Anything (both_at application_signed application_string) At inside (λ rest. tt)

abbrev pub Filed : {A : Type 0} → (ObjectId → A → Request) → (A → Octets → Type 0) → Request → Octets → Type 0
Filed {A = A} make Access = Made (λ (t : ObjectId × A). make t.0 t.1) (λ t. ApplicationObject t.0 ⨾ Access t.1)

pub file_exact : {A : Type 0} (make : ObjectId → A → Request) (access : Octets → Read A) (Access : A → Octets → Type 0)
    → IsExact Anything access Access → IsExact Anything (file_at make access) (Filed make Access)
file_exact {A = A} make access Access law =
    made_exact Anything (λ (t : ObjectId × A). make t.0 t.1) (both_at application_object access) (λ t. ApplicationObject t.0 ⨾ Access t.1)
    (both_exact Anything Anything application_object access ApplicationObject Access object_exact law (λ b text rest q f. tt))

pub content_spelled : (start : ℤ) (octets : Octets) → distance start < 2 ^ 63 → length octets < 2 ^ 32
    → SpellsContent start octets (content_spelling start octets)
content_spelled start octets lt short =
    let string : ApplicationString octets (primitive Application 6 octets) = record { contents = octets; are = refl; fits = short; is = refl } in
    let both : (ApplicationSigned start ⨾ ApplicationString octets) (primitive Application 3 (signed_octets start) ++ primitive Application 6 octets) =
    record {
      front = primitive Application 3 (signed_octets start);
      back = primitive Application 6 octets;
      first = signed_tagged Application 3 start lt;
      second = string;
      is = refl;
    } in
    record { inside = primitive Application 3 (signed_octets start) ++ primitive Application 6 octets; are = both; is = refl }

pub extent_spelled : (start : ℤ) (count : ℕ) → IsExtent start count → SpellsExtent start count (extent_spelling start count)
extent_spelled start count h =
    record {
      front = primitive Application 3 (signed_octets start);
      back = primitive Application 2 (unsigned_octets count);
      first = signed_tagged Application 3 start h.start_fits;
      second = unsigned_tagged Application 2 count h.count_fits;
      is = refl;
    }

pub file_spelled : (file : ObjectId) (P : Octets → Type 0) (bytes : Octets) → IsFile file → P bytes
    → (ApplicationObject file ⨾ P) (file_spelling file bytes)
file_spelled file P bytes h p = record {
  front = primitive Application 12 (object_octets file);
  back = bytes;
  first = object_tagged Application 12 file h.kind_fits h.instance_fits;
  second = p;
  is = refl;
}

pub length-content : (start : ℤ) (octets : Octets) → length (content_spelling start octets) ≡ content_length start (length octets)
length-content start octets =
    let pair = length-pair 0 (primitive Application 3 (signed_octets start) ++ primitive Application 6 octets) (lit< tt) in
    let both = length-append (primitive Application 3 (signed_octets start)) (primitive Application 6 octets) in
    let first = length-integer Application 3 start (lit< tt) in
    let second = length-primitive Application 6 octets (lit< tt) in
    omega (arith, pair, both, first, second)

pub length-extent : (start : ℤ) (count : ℕ) → length (extent_spelling start count) ≡ extent_length start count
length-extent start count =
    let both = length-append (primitive Application 3 (signed_octets start)) (primitive Application 2 (unsigned_octets count)) in
    let first = length-integer Application 3 start (lit< tt) in
    let second = length-number Application 2 count (lit< tt) in
    omega (arith, both, first, second)

pub length-file : (file : ObjectId) (access : Octets) (k : ℕ) → length access ≡ k
    → length (file_spelling file access) ≡ OBJECT_LENGTH + k
length-file file access k e =
    let both = length-append (primitive Application 12 (object_octets file)) access in
    let object = length-object Application 12 file (lit< tt) in
    omega (arith, both, object, e)

pub extent_only : (number : ℕ) (start : ℤ) (count : ℕ) → IsOnly (Enclosed number (SpellsExtent start count))
extent_only number start count =
    enclosed_only number (ApplicationSigned start ⨾ ApplicationUnsigned count)
    (after_only (ApplicationSigned start) (ApplicationUnsigned count) (signed_member_only start) (unsigned_member_only count))

pub content_only : (start : ℤ) (octets : Octets) → IsOnly (SpellsContent start octets)
content_only start octets =
    enclosed_only 0 (ApplicationSigned start ⨾ ApplicationString octets)
    (after_only (ApplicationSigned start) (ApplicationString octets) (signed_member_only start) (string_member_only octets))
