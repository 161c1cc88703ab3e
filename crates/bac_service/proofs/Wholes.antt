-- The laws of whole requests and of the service data of whole ComplexACKs: readers accept exactly the spellings, writers append a
-- spelling, and each has only one.
use Rattle.std.proofs.Common.{◌≡◌, ℕ, ◌<◌, Bool, true, false, cond, nat_eq, [], Option, Some, None, ◌⊎◌, inl, inr, refl, sym, ap, subst, ◌∙◌}
use Rattle.std.proofs.Common.{lit<, length, ◌^◌, Result, Ok, Err, ◌↔◌}
use Rattle.std.proofs.Math.Logic.{∥∥₁_elim}
use Rattle.std.proofs.Props.{props}
use Rattle.std.proofs.lemmas.Bool.{eqb-true}
use Rattle.bac_value.proofs.Steps.{ok_is}
use Rattle.bac_value.specs.declared.fault.Fault.{Fault}
use Rattle.bac_value.specs.Octets.{IsBytes}
use Rattle.bac_service.specs.declared.service.Service.{Service}
use Rattle.bac_service.specs.declared.service.Service.TheVariants as service
use Rattle.bac_service.specs.declared.stop.Stop.{Stop}
use Rattle.bac_service.specs.Choices.{ATOMIC_READ_FILE, ATOMIC_WRITE_FILE, READ_PROPERTY, WRITE_PROPERTY, service_at, choice_number}
use Rattle.bac_service.specs.Values.{Request, Complex, choice_of, complex_choice_of}
use Rattle.bac_service.specs.Values.Request.{ReadFile, WriteFile, ReadProperty, WriteProperty}
use Rattle.bac_service.specs.Values.Complex.{FileRead, StreamWritten, RecordsWritten, PropertyRead}
use Rattle.bac_service.specs.Members.{Octets, ApplicationObject}
use Rattle.bac_service.specs.Reading.{next_tag, head_at, member_at, is_next, is_opened, whole}
use Rattle.bac_service.specs.References.{SpellsReference, reference_at}
use Rattle.bac_service.specs.AtomicReadFile.{SpellsReadAccess, read_access_at, read_file_at, read_access_spelling, read_access_length, end_of_file_at, file_read_at}
use Rattle.bac_service.specs.AtomicWriteFile.{SpellsWriteAccess, write_access_at, write_file_at, write_access_spelling, write_access_length, file_written_at}
use Rattle.bac_service.specs.ReadProperty.{read_property_at, property_read_at}
use Rattle.bac_service.specs.WriteProperty.{write_property_of, write_property_at}
use Rattle.bac_service.specs.Requests.{SpellsMembers, SpellsRequest, IsMade, IsRequest, request_members, request_of, request_at, request_spelling, request_length}
use Rattle.bac_service.specs.Replies.{SpellsComplexMembers, SpellsComplex, IsMadeOf, IsReply, IsComplex, complex_members, complex_at, is_read, reads_reply}
use Rattle.bac_service.specs.Replies.{complex_spelling, complex_length}
use Rattle.bac_service.specs.Stops.{or_reason, or_fault}
use Rattle.bac_service.proofs.Exact.{Anything, Differs, Made, made_exact, whole_takes, whole_again}
use Rattle.bac_service.proofs.Heads.{some_is}
use Rattle.bac_service.proofs.Pairs.{end_differs}
use Rattle.bac_service.proofs.Only.{IsOnly, after_only, file_only}
use Rattle.bac_service.proofs.References.{reference_exact, reference_spelled, length-reference, reference_only}
use Rattle.bac_service.proofs.Files.{Filed, file_exact, file_spelled, length-file}
use Rattle.bac_service.proofs.AtomicReadFileLaws.{read_access_exact, read_access_spelled, length-read_access, read_access_only}
use Rattle.bac_service.proofs.AtomicReadFileLaws.{FileReads, file_read_of, file_read_exact, file_read_spelled, length-file_read, file_read_only}
use Rattle.bac_service.proofs.AtomicWriteFileLaws.{write_access_exact, write_access_spelled, length-write_access, write_access_only, written_is}
use Rattle.bac_service.proofs.AtomicWriteFileLaws.{IsPlace, written_exact, position_spelled, length-position, position_only}
use Rattle.bac_service.proofs.ReadPropertyLaws.{PropertyReads, property_read_of, property_read_exact, property_read_spelled, length-property_read, property_read_only}
use Rattle.bac_service.proofs.WritePropertyLaws.{Written, write_exact, write_property_spelled, length-write_property, write_property_only}

-- ---- services

chosen_is : {A : Type 0} (b : Bool) (x y : Option A) (z : A) → cond b x y ≡ Some z → ((b ≡ true) × (x ≡ Some z)) ⊎ ((b ≡ false) × (y ≡ Some z))
chosen_is true x y z e = inl (refl, e)
chosen_is false x y z e = inr (refl, e)

abbrev HasChoice : ℕ → Service → Type 0
HasChoice choice s = choice ≡ choice_number s

pub service_is : (choice : ℕ) (s : Service) → service_at choice ≡ Some s → choice ≡ choice_number s
service_is choice s e =
    let write_property : Option Service = cond (nat_eq choice WRITE_PROPERTY) (Some service.WriteProperty) None in
    let read_property : Option Service = cond (nat_eq choice READ_PROPERTY) (Some service.ReadProperty) write_property in
    let write_file : Option Service = cond (nat_eq choice ATOMIC_WRITE_FILE) (Some service.AtomicWriteFile) read_property in
    elim (chosen_is (nat_eq choice ATOMIC_READ_FILE) (Some service.AtomicReadFile) write_file s e) [
      | inl c ↦ subst (HasChoice choice) (some_is service.AtomicReadFile s c.1) (eqb-true choice ATOMIC_READ_FILE c.0)
      | inr n ↦ elim (chosen_is (nat_eq choice ATOMIC_WRITE_FILE) (Some service.AtomicWriteFile) read_property s n.1) [
        | inl c ↦ subst (HasChoice choice) (some_is service.AtomicWriteFile s c.1) (eqb-true choice ATOMIC_WRITE_FILE c.0)
        | inr m ↦ elim (chosen_is (nat_eq choice READ_PROPERTY) (Some service.ReadProperty) write_property s m.1) [
          | inl c ↦ subst (HasChoice choice) (some_is service.ReadProperty s c.1) (eqb-true choice READ_PROPERTY c.0)
          | inr k ↦ elim (chosen_is (nat_eq choice WRITE_PROPERTY) (Some service.WriteProperty) None s k.1) [
            | inl c ↦ subst (HasChoice choice) (some_is service.WriteProperty s c.1) (eqb-true choice WRITE_PROPERTY c.0)
            | inr l ↦ let no = l.1 in absurd cc
          ]
        ]
      ]
    ]

-- ---- whole requests

abbrev Spelled : ℕ → Octets → Request → Type 0
Spelled choice bytes r = SpellsRequest choice r bytes

members_take : (s : Service) (bytes : Octets) (r : Request) → IsBytes bytes → whole (request_members s) bytes ≡ Ok r → SpellsRequest (choice_number s) r bytes
members_take service.AtomicReadFile bytes r fits e =
    let s = whole_takes Anything read_file_at (Filed ReadFile SpellsReadAccess)
    (file_exact ReadFile read_access_at SpellsReadAccess read_access_exact) bytes r fits e in
    subst (Spelled ATOMIC_READ_FILE bytes) s.1 (record { choice_is = refl; members = s.2 })
members_take service.AtomicWriteFile bytes r fits e =
    let s = whole_takes Anything write_file_at (Filed WriteFile SpellsWriteAccess)
    (file_exact WriteFile write_access_at SpellsWriteAccess write_access_exact) bytes r fits e in
    subst (Spelled ATOMIC_WRITE_FILE bytes) s.1 (record { choice_is = refl; members = s.2 })
members_take service.ReadProperty bytes r fits e =
    let s = whole_takes (Differs 2) read_property_at (Made ReadProperty SpellsReference)
    (made_exact (Differs 2) ReadProperty reference_at SpellsReference reference_exact) bytes r fits e in
    subst (Spelled READ_PROPERTY bytes) s.1 (record { choice_is = refl; members = s.2 })
members_take service.WriteProperty bytes r fits e =
    let s = whole_takes (Differs 4) write_property_at (Made write_property_of Written) write_exact bytes r fits e in
    subst (Spelled WRITE_PROPERTY bytes) s.1 (record { choice_is = refl; members = s.2 })

reason_ok : {A : Type 0} (r : Result A Stop) (x : A) → or_reason r ≡ Ok x → r ≡ Ok x
reason_ok (Ok y) x e = cc
reason_ok (Err d) x e = absurd cc

request_of_takes : (choice : ℕ) (bytes : Octets) (r : Request) → IsBytes bytes → (o : Option Service) → service_at choice ≡ o → request_of o bytes ≡ Ok r
    → SpellsRequest choice r bytes
request_of_takes choice bytes r fits None at e = absurd cc
request_of_takes choice bytes r fits (Some s) at e =
    subst (λ (n : ℕ). SpellsRequest n r bytes) (sym (service_is choice s at))
    (members_take s bytes r fits (reason_ok (whole (request_members s) bytes) r e))

pub request_takes : (choice : ℕ) (bytes : Octets) (r : Request) → IsBytes bytes → request_at choice bytes ≡ Ok r → SpellsRequest choice r bytes
unfolding request_at
request_takes choice bytes r fits e = request_of_takes choice bytes r fits (service_at choice) refl e

members_again : (r : Request) (bytes : Octets) → SpellsMembers r bytes → request_at (choice_of r) bytes ≡ Ok r
unfolding request_at
members_again (ReadFile file access) bytes s =
    ap or_reason (whole_again Anything read_file_at (Filed ReadFile SpellsReadAccess)
    (file_exact ReadFile read_access_at SpellsReadAccess read_access_exact) tt bytes (ReadFile file access) ((file, access), refl, s))
members_again (WriteFile file access) bytes s =
    ap or_reason (whole_again Anything write_file_at (Filed WriteFile SpellsWriteAccess)
    (file_exact WriteFile write_access_at SpellsWriteAccess write_access_exact) tt bytes (WriteFile file access) ((file, access), refl, s))
members_again (ReadProperty r) bytes s =
    ap or_reason (whole_again (Differs 2) read_property_at (Made ReadProperty SpellsReference)
    (made_exact (Differs 2) ReadProperty reference_at SpellsReference reference_exact) (end_differs 2) bytes (ReadProperty r) (r, refl, s))
members_again (WriteProperty r values priority) bytes s =
    ap or_reason (whole_again (Differs 4) write_property_at (Made write_property_of Written) write_exact (end_differs 4) bytes
    (WriteProperty r values priority) ((r, (values, priority)), refl, s))

pub request_again : (choice : ℕ) (bytes : Octets) (r : Request) → SpellsRequest choice r bytes → request_at choice bytes ≡ Ok r
request_again choice bytes r s = rw s.choice_is (members_again r bytes s.members)

-- what is written
members_spelled : (r : Request) → IsRequest r → SpellsMembers r (request_spelling r)
members_spelled (ReadFile file access) h = file_spelled file (SpellsReadAccess access) (read_access_spelling access) h.0 (read_access_spelled access h.1)
members_spelled (WriteFile file access) h = file_spelled file (SpellsWriteAccess access) (write_access_spelling access) h.0 (write_access_spelled access h.1)
members_spelled (ReadProperty r) h = reference_spelled r h
members_spelled (WriteProperty r values priority) h = write_property_spelled r values priority h

pub request_spelled : (r : Request) → IsRequest r → SpellsRequest (choice_of r) r (request_spelling r)
request_spelled r h = record { choice_is = refl; members = members_spelled r h }

pub length_request : (r : Request) → length (request_spelling r) ≡ request_length r
length_request (ReadFile file access) = length-file file (read_access_spelling access) (read_access_length access) (length-read_access access)
length_request (WriteFile file access) = length-file file (write_access_spelling access) (write_access_length access) (length-write_access access)
length_request (ReadProperty r) = length-reference r
length_request (WriteProperty r values priority) = length-write_property r values priority

-- one spelling
members_only : (r : Request) → IsOnly (SpellsMembers r)
members_only (ReadFile file access) = after_only (ApplicationObject file) (SpellsReadAccess access) (file_only file) (read_access_only access)
members_only (WriteFile file access) = after_only (ApplicationObject file) (SpellsWriteAccess access) (file_only file) (write_access_only access)
members_only (ReadProperty r) = reference_only r
members_only (WriteProperty r values priority) = write_property_only r values priority

pub one_spelling : (choice : ℕ) (r : Request) (a b : Octets) → SpellsRequest choice r a → SpellsRequest choice r b → a ≡ b
one_spelling choice r a b s t = members_only r a b s.members t.members

pub one_request : (choice : ℕ) (q r : Request) (bytes : Octets) → SpellsRequest choice q bytes → SpellsRequest choice r bytes → q ≡ r
one_request choice q r bytes s t = ok_is q r (sym (request_again choice bytes q s) ∙ request_again choice bytes r t)

-- ---- service data of ComplexACKs

abbrev SpelledComplex : ℕ → Octets → Complex → Type 0
SpelledComplex choice bytes c = SpellsComplex choice c bytes

written_takes : (bytes : Octets) (c : Complex) → IsPlace c bytes → SpellsComplex ATOMIC_WRITE_FILE c bytes
written_takes bytes c (inl (z, make, s)) = subst (SpelledComplex ATOMIC_WRITE_FILE bytes) make (record { choice_is = refl; members = s })
written_takes bytes c (inr (z, make, s)) = subst (SpelledComplex ATOMIC_WRITE_FILE bytes) make (record { choice_is = refl; members = s })

complex_members_take : (s : Service) (bytes : Octets) (c : Complex) → IsBytes bytes → whole (complex_members (Some s)) bytes ≡ Ok c
    → SpellsComplex (choice_number s) c bytes
complex_members_take service.AtomicReadFile bytes c fits e =
    let s = whole_takes Anything file_read_at (Made file_read_of FileReads) file_read_exact bytes c fits e in
    subst (SpelledComplex ATOMIC_READ_FILE bytes) s.1 (record { choice_is = refl; members = s.2 })
complex_members_take service.AtomicWriteFile bytes c fits e =
    written_takes bytes c (whole_takes Anything file_written_at IsPlace written_exact bytes c fits e)
complex_members_take service.ReadProperty bytes c fits e =
    let s = whole_takes Anything property_read_at (Made property_read_of PropertyReads) property_read_exact bytes c fits e in
    subst (SpelledComplex READ_PROPERTY bytes) s.1 (record { choice_is = refl; members = s.2 })
complex_members_take service.WriteProperty bytes c fits e = absurd cc

fault_ok : {A : Type 0} (all : ℕ) (r : Result A Stop) (x : A) → or_fault all r ≡ Ok x → r ≡ Ok x
fault_ok all (Ok y) x e = cc
fault_ok all (Err d) x e = absurd cc

complex_of_takes : (choice : ℕ) (bytes : Octets) (c : Complex) → IsBytes bytes → (o : Option Service) → service_at choice ≡ o
    → whole (complex_members o) bytes ≡ Ok c → SpellsComplex choice c bytes
complex_of_takes choice bytes c fits None at e = absurd cc
complex_of_takes choice bytes c fits (Some s) at e =
    subst (λ (n : ℕ). SpellsComplex n c bytes) (sym (service_is choice s at)) (complex_members_take s bytes c fits e)

pub complex_takes : (choice : ℕ) (bytes : Octets) (c : Complex) → IsBytes bytes → complex_at choice bytes ≡ Ok c → SpellsComplex choice c bytes
unfolding complex_at
complex_takes choice bytes c fits e =
    complex_of_takes choice bytes c fits (service_at choice) refl (fault_ok (length bytes) (whole (complex_members (service_at choice)) bytes) c e)

complex_members_again : (c : Complex) (bytes : Octets) → SpellsComplexMembers c bytes → complex_at (complex_choice_of c) bytes ≡ Ok c
unfolding complex_at
complex_members_again (FileRead b z octets) bytes s =
    ap (or_fault (length bytes)) (whole_again Anything file_read_at (Made file_read_of FileReads) file_read_exact tt bytes (FileRead b z octets)
    ((b, (z, octets)), refl, s))
complex_members_again (StreamWritten z) bytes s =
    ap (or_fault (length bytes)) (whole_again Anything file_written_at IsPlace written_exact tt bytes (StreamWritten z) (inr (z, refl, s)))
complex_members_again (RecordsWritten z) bytes s =
    ap (or_fault (length bytes)) (whole_again Anything file_written_at IsPlace written_exact tt bytes (RecordsWritten z) (inl (z, refl, s)))
complex_members_again (PropertyRead r values) bytes s =
    ap (or_fault (length bytes)) (whole_again Anything property_read_at (Made property_read_of PropertyReads) property_read_exact tt bytes
    (PropertyRead r values) ((r, values), refl, s))

pub complex_again : (choice : ℕ) (bytes : Octets) (c : Complex) → SpellsComplex choice c bytes → complex_at choice bytes ≡ Ok c
complex_again choice bytes c s = subst (λ (n : ℕ). complex_at n bytes ≡ Ok c) (sym s.choice_is) (complex_members_again c bytes s.members)

-- what is written
complex_members_spelled : (c : Complex) → IsComplex c → SpellsComplexMembers c (complex_spelling c)
complex_members_spelled (FileRead end_of_file start octets) h = file_read_spelled end_of_file start octets h
complex_members_spelled (StreamWritten start) h = position_spelled 0 start h
complex_members_spelled (RecordsWritten start) h = position_spelled 1 start h
complex_members_spelled (PropertyRead r values) h = property_read_spelled r values h

pub complex_spelled : (c : Complex) → IsComplex c → SpellsComplex (complex_choice_of c) c (complex_spelling c)
complex_spelled c h = record { choice_is = refl; members = complex_members_spelled c h }

pub length_complex : (c : Complex) → length (complex_spelling c) ≡ complex_length c
length_complex (FileRead end_of_file start octets) = length-file_read end_of_file start octets
length_complex (StreamWritten start) = length-position 0 start (lit< tt)
length_complex (RecordsWritten start) = length-position 1 start (lit< tt)
length_complex (PropertyRead r values) = length-property_read r values

-- one spelling
complex_only : (c : Complex) → IsOnly (SpellsComplexMembers c)
complex_only (FileRead end_of_file start octets) = file_read_only end_of_file start octets
complex_only (StreamWritten start) = position_only 0 start
complex_only (RecordsWritten start) = position_only 1 start
complex_only (PropertyRead r values) = property_read_only r values

pub one_complex_spelling : (choice : ℕ) (c : Complex) (a b : Octets) → SpellsComplex choice c a → SpellsComplex choice c b → a ≡ b
one_complex_spelling choice c a b s t = complex_only c a b s.members t.members

pub one_complex : (choice : ℕ) (c d : Complex) (bytes : Octets) → SpellsComplex choice c bytes → SpellsComplex choice d bytes → c ≡ d
one_complex choice c d bytes s t = ok_is c d (sym (complex_again choice bytes c s) ∙ complex_again choice bytes d t)

-- ---- the guarantees of readers in code

made_of : (r : Request) (bytes : Octets) → SpellsMembers r bytes → IsMade r
made_of (ReadFile file access) bytes s = tt
made_of (WriteFile file access) bytes s = written_is access s.back s.second
made_of (ReadProperty r) bytes s = tt
made_of (WriteProperty r values priority) bytes s = ∣ s.second.first.are.spelled ∣₁

pub request_made : (choice : ℕ) (bytes : Octets) (r : Request) → IsBytes bytes → request_at choice bytes ≡ Ok r → IsMade r
request_made choice bytes r fits e = made_of r bytes (request_takes choice bytes r fits e).members

pub request_refused : (choice : ℕ) (bytes : Octets) (reason : ℕ) → request_at choice bytes ≡ Err reason → (r : Request) → SpellsRequest choice r bytes → ⊥
request_refused choice bytes reason e r s = let again = request_again choice bytes r s in absurd cc

complex_members_made : (c : Complex) (bytes : Octets) → SpellsComplexMembers c bytes → IsMadeOf c
complex_members_made (FileRead b z octets) bytes s = let string = s.second.are.second in subst (λ (xs : Octets). length xs < 2 ^ 32) string.are string.fits
complex_members_made (StreamWritten z) bytes s = tt
complex_members_made (RecordsWritten z) bytes s = tt
complex_members_made (PropertyRead r values) bytes s = ∣ s.second.are.spelled ∣₁

pub complex_made : (choice : ℕ) (bytes : Octets) (c : Complex) → IsBytes bytes → complex_at choice bytes ≡ Ok c → IsMadeOf c
complex_made choice bytes c fits e = complex_members_made c bytes (complex_takes choice bytes c fits e).members

pub complex_refused : (choice : ℕ) (bytes : Octets) (fault : Fault) → complex_at choice bytes ≡ Err fault → (c : Complex) → SpellsComplex choice c bytes → ⊥
complex_refused choice bytes fault e c s = let again = complex_again choice bytes c s in absurd cc

-- ---- what can be read

read_is : {A E : Type 0} (r : Result A E) → is_read r ≡ true → (x : A) × (r ≡ Ok x)
read_is (Ok x) e = (x, refl)
read_is (Err d) e = absurd cc

pub reply_is_read : (choice : ℕ) (bytes : Octets) → IsReply choice bytes → reads_reply choice bytes ≡ true
reply_is_read choice bytes i = ap is_read (complex_again choice bytes i.complex i.spelled)

pub read_is_reply : (choice : ℕ) (bytes : Octets) → IsBytes bytes → reads_reply choice bytes ≡ true → IsReply choice bytes
read_is_reply choice bytes fits e =
    let c = read_is (complex_at choice bytes) e in
    record { complex = c.0; spelled = complex_takes choice bytes c.0 fits c.1 }

is_true_prop : (b : Bool) → IsProp (b ≡ true)
is_true_prop b = hlevel props

pub read_iff : (choice : ℕ) (bytes : Octets) (b : Bool) → IsBytes bytes → b ≡ reads_reply choice bytes → (b ≡ true) ↔ ∥ IsReply choice bytes ∥₁
read_iff choice bytes b fits is = (
  λ t. ∣ read_is_reply choice bytes fits (sym is ∙ t) ∣₁,
  λ known. ∥∥₁_elim known (is_true_prop b) (λ i. is ∙ reply_is_read choice bytes i),
)

-- ---- nothing is spelled by no octets

some_octets : (r : Request) → SpellsMembers r [] → ⊥
unfolding request_at next_tag head_at member_at is_opened reference_at write_property_at
some_octets (ReadFile file access) s = let again = members_again (ReadFile file access) [] s in absurd cc
some_octets (WriteFile file access) s = let again = members_again (WriteFile file access) [] s in absurd cc
some_octets (ReadProperty r) s = let again = members_again (ReadProperty r) [] s in absurd cc
some_octets (WriteProperty r values priority) s = let again = members_again (WriteProperty r values priority) [] s in absurd cc

pub request_has_octets : (choice : ℕ) (r : Request) → SpellsRequest choice r [] → ⊥
request_has_octets choice r s = some_octets r s.members

some_complex_octets : (c : Complex) → SpellsComplexMembers c [] → ⊥
unfolding complex_at next_tag head_at member_at end_of_file_at file_read_at property_read_at file_written_at is_next reference_at
some_complex_octets (FileRead b z octets) s = let again = complex_members_again (FileRead b z octets) [] s in absurd cc
some_complex_octets (StreamWritten z) s = let again = complex_members_again (StreamWritten z) [] s in absurd cc
some_complex_octets (RecordsWritten z) s = let again = complex_members_again (RecordsWritten z) [] s in absurd cc
some_complex_octets (PropertyRead r values) s = let again = complex_members_again (PropertyRead r values) [] s in absurd cc

pub complex_has_octets : (choice : ℕ) (c : Complex) → SpellsComplex choice c [] → ⊥
complex_has_octets choice c s = some_complex_octets c s.members
