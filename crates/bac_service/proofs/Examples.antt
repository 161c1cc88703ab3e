-- Worked examples of the definitions, checked by computing.
use Rattle.std.proofs.Common.{◌≡◌, ℕ, ◌<◌, zero, suc, [], ◌∷◌, ◌++◌, Option, Some, None, Err, true, refl, subst, arith, pos, replicate}
use Rattle.bac_value.specs.declared.tag.Class.TheVariants.{Application}
use Rattle.bac_value.specs.declared.tag.Form.TheVariants.{Length}
use Rattle.bac_value.specs.Data.{Forest, none, leaf, pair, spelling, IsWithin, IsData}
use Rattle.bac_value.specs.Element.{Part, SpellsElement}
use Rattle.bac_value.specs.Number.{unsigned_octets, signed_octets}
use Rattle.bac_value.specs.Spelling.{tag_spelling}
use Rattle.bac_value.specs.Value.{ObjectId, real}
use Rattle.bac_value.specs.Reading.{tag_at, tag_number_at, form_at, length_at, raw_at, kind_at, class_at, contents_at, element_at}
use Rattle.bac_value.specs.Reading.{number_at, signed_at, object_at, turn, step_at, data_at}
use Rattle.bac_service.specs.Members.{Octets, Tagged}
use Rattle.bac_service.specs.Runs.{AreStrings, strings_at, run_at}
use Rattle.bac_service.specs.Reading.{announced, next_tag, head_at, member_at, is_next, optional_at, is_opened, tag_that, enclosed_at, values_at, that_at}
use Rattle.bac_service.specs.References.{reference_at, IsReference}
use Rattle.bac_service.specs.Files.{IsFile}
use Rattle.bac_service.specs.AtomicReadFile.{read_access_at}
use Rattle.bac_service.specs.AtomicWriteFile.{counted_at, write_access_at}
use Rattle.bac_service.specs.Priorities.{priority_at}
use Rattle.bac_service.specs.WriteProperty.{write_property_at}
use Rattle.bac_service.specs.Values.{Reference, Request, Complex, choice_of, complex_choice_of}
use Rattle.bac_service.specs.Values.ReadAccess.{ReadStream, ReadRecords}
use Rattle.bac_service.specs.Values.WriteAccess.{WriteStream, WriteRecords}
use Rattle.bac_service.specs.Values.Request.{ReadFile, WriteFile, ReadProperty, WriteProperty}
use Rattle.bac_service.specs.Values.Complex.{FileRead, StreamWritten, RecordsWritten, PropertyRead}
use Rattle.bac_service.specs.Requests.{SpellsRequest, request_at, request_spelling, IsRequest}
use Rattle.bac_service.specs.Replies.{SpellsComplex, complex_spelling, IsComplex}
use Rattle.bac_service.proofs.Wholes.{request_again, request_spelled, complex_spelled}

-- octets that are the spelling of a request encode it
spelled : (r : Request) (bytes : Octets) → IsRequest r → request_spelling r ≡ bytes → SpellsRequest (choice_of r) r bytes
spelled r bytes is same = subst (SpellsRequest (choice_of r) r) same (request_spelled r is)

spelled_complex : (c : Complex) (bytes : Octets) → IsComplex c → complex_spelling c ≡ bytes → SpellsComplex (complex_choice_of c) c bytes
spelled_complex c bytes is same = subst (SpellsComplex (complex_choice_of c) c) same (complex_spelled c is)

-- the octets are rejected for this reason (clause 18.9), and encode no request
record Refuses (choice : ℕ) (bytes : Octets) (reason : ℕ) : Type 0 where
  reads : request_at choice bytes ≡ Err reason
  none : (r : Request) → SpellsRequest choice r bytes → ⊥

-- octets that are not read encode no request
refused : (choice : ℕ) (bytes : Octets) (reason : ℕ) → request_at choice bytes ≡ Err reason → Refuses choice bytes reason
refused choice bytes reason e = record { reads = e; none = λ r s. let read = request_again choice bytes r s in absurd cc }

-- ---- parts of the requests and the service data below

abbrev object : ℕ → ℕ → ObjectId
object kind instance = record { kind = kind; instance = instance }

abbrev present_value : ObjectId → Option ℕ → Reference
present_value of index = record { object = of; property = 85; index = index }

-- analog-input 5 and analog-value 1
abbrev input_5 : Option ℕ → Reference
input_5 index = present_value (object 0 5) index

abbrev value_1 : Reference
value_1 = present_value (object 2 1) None

is_value_1 : IsReference value_1
is_value_1 = record { kind_fits = omega arith; instance_fits = omega arith; property_fits = omega arith; index_fits = tt }

is_input_5 : IsReference (input_5 None)
is_input_5 = record { kind_fits = omega arith; instance_fits = omega arith; property_fits = omega arith; index_fits = tt }

abbrev file_1 : ObjectId
file_1 = object 10 1

is_file_1 : IsFile file_1
is_file_1 = record { kind_fits = omega arith; instance_fits = omega arith }

abbrev a_run : Octets
a_run = 0x62 ∷ 0xAB ∷ 0xCD ∷ []

one_string : AreStrings 1 a_run
unfolding tag_spelling
one_string =
    let string : Tagged Application 6 (λ xs. Unit {0}) a_run = record { contents = 0xAB ∷ 0xCD ∷ []; are = tt; fits = omega arith; is = refl } in
    record { front = a_run; back = []; first = string; second = refl; is = refl }

abbrev real_of : Octets → Part
real_of octets = record { mark = record { number = 4; class = Application; form = Length 4 }; contents = octets }

abbrev a_real : Octets
a_real = 0x44 ∷ 0x43 ∷ 0x34 ∷ 0x00 ∷ 0x00 ∷ []

real_is_data : IsData a_real
unfolding spelling tag_spelling IsWithin
real_is_data =
    let octets = 0x43 ∷ 0x34 ∷ 0x00 ∷ 0x00 ∷ [] in
    let element : SpellsElement (real_of octets) a_real =
    record {
      tag = record { fits = refl; length_in = omega arith; is = refl };
      contents = (refl, (real octets, refl, record { is = refl; sized = refl }));
      is = refl;
    } in
    (leaf (real_of octets) none, record { within = (record { form = tt; spelled = element }, tt); is = refl })

-- this many nested pairs of tags with number 0
nested : ℕ → Forest
nested zero = none
nested (suc n) = pair 0 (nested n) none

eight_pairs_are_data : IsData (replicate 8 0x0E ++ replicate 8 0x0F)
unfolding spelling tag_spelling IsWithin nested
eight_pairs_are_data =
    let lt : 0 < 255 = omega arith in
    (nested 8, record { within = (lt, (lt, (lt, (lt, (lt, (lt, (lt, (lt, tt, tt), tt), tt), tt), tt), tt), tt), tt); is = refl })

-- ---- requests

octets_of_a_file : SpellsRequest 6 (ReadFile file_1 (ReadStream (pos 0) 10)) (0xC4 ∷ 0x02 ∷ 0x80 ∷ 0x00 ∷ 0x01 ∷ 0x0E ∷ 0x31 ∷ 0x00 ∷ 0x21 ∷ 0x0A ∷ 0x0F ∷ [])
unfolding tag_spelling unsigned_octets signed_octets
octets_of_a_file = spelled _ _ (is_file_1, record { start_fits = omega arith; count_fits = omega arith }) refl

records_of_a_file : SpellsRequest 6 (ReadFile file_1 (ReadRecords (pos 0) 1)) (0xC4 ∷ 0x02 ∷ 0x80 ∷ 0x00 ∷ 0x01 ∷ 0x1E ∷ 0x31 ∷ 0x00 ∷ 0x21 ∷ 0x01 ∷ 0x1F ∷ [])
unfolding tag_spelling unsigned_octets signed_octets
records_of_a_file = spelled _ _ (is_file_1, record { start_fits = omega arith; count_fits = omega arith }) refl

octets_for_a_file : SpellsRequest 7 (WriteFile file_1 (WriteStream (pos 0) (0xAA ∷ 0xBB ∷ 0xCC ∷ [])))
    (0xC4 ∷ 0x02 ∷ 0x80 ∷ 0x00 ∷ 0x01 ∷ 0x0E ∷ 0x31 ∷ 0x00 ∷ 0x63 ∷ 0xAA ∷ 0xBB ∷ 0xCC ∷ 0x0F ∷ [])
unfolding tag_spelling unsigned_octets signed_octets
octets_for_a_file = spelled _ _ (is_file_1, (omega arith, omega arith)) refl

one_record_for_a_file : SpellsRequest 7 (WriteFile file_1 (WriteRecords (pos 0) 1 a_run))
    (0xC4 ∷ 0x02 ∷ 0x80 ∷ 0x00 ∷ 0x01 ∷ 0x1E ∷ 0x31 ∷ 0x00 ∷ 0x21 ∷ 0x01 ∷ 0x62 ∷ 0xAB ∷ 0xCD ∷ 0x1F ∷ [])
unfolding tag_spelling unsigned_octets signed_octets
one_record_for_a_file = spelled _ _ (is_file_1, (record { start_fits = omega arith; count_fits = omega arith }, one_string)) refl

index_0 : SpellsRequest 12 (ReadProperty (input_5 (Some 0))) (0x0C ∷ 0x00 ∷ 0x00 ∷ 0x00 ∷ 0x05 ∷ 0x19 ∷ 0x55 ∷ 0x29 ∷ 0x00 ∷ [])
unfolding tag_spelling unsigned_octets signed_octets
index_0 = spelled _ _ (record { kind_fits = omega arith; instance_fits = omega arith; property_fits = omega arith; index_fits = omega arith }) refl

no_index : SpellsRequest 12 (ReadProperty (input_5 None)) (0x0C ∷ 0x00 ∷ 0x00 ∷ 0x00 ∷ 0x05 ∷ 0x19 ∷ 0x55 ∷ [])
unfolding tag_spelling unsigned_octets signed_octets
no_index = spelled _ _ is_input_5 refl

priority_16 : SpellsRequest 15 (WriteProperty value_1 a_real (Some 16))
    (0x0C ∷ 0x00 ∷ 0x80 ∷ 0x00 ∷ 0x01 ∷ 0x19 ∷ 0x55 ∷ 0x3E ∷ 0x44 ∷ 0x43 ∷ 0x34 ∷ 0x00 ∷ 0x00 ∷ 0x3F ∷ 0x49 ∷ 0x10 ∷ [])
unfolding tag_spelling unsigned_octets signed_octets
priority_16 = spelled _ _ (is_value_1, real_is_data, (omega arith, omega arith)) refl

no_priority : SpellsRequest 15 (WriteProperty value_1 a_real None)
    (0x0C ∷ 0x00 ∷ 0x80 ∷ 0x00 ∷ 0x01 ∷ 0x19 ∷ 0x55 ∷ 0x3E ∷ 0x44 ∷ 0x43 ∷ 0x34 ∷ 0x00 ∷ 0x00 ∷ 0x3F ∷ [])
unfolding tag_spelling unsigned_octets signed_octets
no_priority = spelled _ _ (is_value_1, real_is_data, tt) refl

eight_pairs : SpellsRequest 15 (WriteProperty value_1 (replicate 8 0x0E ++ replicate 8 0x0F) None)
    (0x0C ∷ 0x00 ∷ 0x80 ∷ 0x00 ∷ 0x01 ∷ 0x19 ∷ 0x55 ∷ 0x3E ∷ (replicate 8 0x0E ++ (replicate 8 0x0F ++ (0x3F ∷ []))))
unfolding tag_spelling unsigned_octets signed_octets
eight_pairs = spelled _ _ (is_value_1, eight_pairs_are_data, tt) refl

-- ---- octets that are no request

-- two records counted but one present; an index of five octets; no property; a member of another service; an object of three octets;
-- a truncated value; unbalanced data; priority 0; another service
refused_requests :
    Refuses 7 (0xC4 ∷ 0x02 ∷ 0x80 ∷ 0x00 ∷ 0x01 ∷ 0x1E ∷ 0x31 ∷ 0x00 ∷ 0x21 ∷ 0x02 ∷ 0x62 ∷ 0xAB ∷ 0xCD ∷ 0x1F ∷ []) 2
    × Refuses 12 (0x0C ∷ 0x00 ∷ 0x00 ∷ 0x00 ∷ 0x05 ∷ 0x19 ∷ 0x55 ∷ 0x2D ∷ 0x05 ∷ 0x01 ∷ 0x00 ∷ 0x00 ∷ 0x00 ∷ 0x00 ∷ []) 3
    × Refuses 12 (0x0C ∷ 0x00 ∷ 0x00 ∷ 0x00 ∷ 0x05 ∷ 0x29 ∷ 0x55 ∷ []) 4
    × Refuses 12 (0x0C ∷ 0x00 ∷ 0x00 ∷ 0x00 ∷ 0x05 ∷ 0x19 ∷ 0x55 ∷ 0x39 ∷ 0x00 ∷ []) 7
    × Refuses 12 (0x0B ∷ 0x00 ∷ 0x00 ∷ 0x05 ∷ 0x19 ∷ 0x55 ∷ []) 3
    × Refuses 15 (0x0C ∷ 0x00 ∷ 0x80 ∷ 0x00 ∷ 0x01 ∷ 0x19 ∷ 0x55 ∷ 0x3E ∷ 0x44 ∷ 0x43 ∷ 0x34 ∷ 0x00 ∷ []) 5
    × Refuses 15 (0x0C ∷ 0x00 ∷ 0x80 ∷ 0x00 ∷ 0x01 ∷ 0x19 ∷ 0x55 ∷ 0x3E ∷ 0x2E ∷ 0x3F ∷ 0x3F ∷ []) 4
    × Refuses 15 (0x0C ∷ 0x00 ∷ 0x80 ∷ 0x00 ∷ 0x01 ∷ 0x19 ∷ 0x55 ∷ 0x3E ∷ 0x44 ∷ 0x43 ∷ 0x34 ∷ 0x00 ∷ 0x00 ∷ 0x3F ∷ 0x49 ∷ 0x00 ∷ []) 6
    × Refuses 9 (0x0C ∷ 0x00 ∷ 0x00 ∷ 0x00 ∷ 0x05 ∷ 0x19 ∷ 0x55 ∷ []) 9
unfolding tag_at tag_number_at form_at length_at raw_at kind_at class_at contents_at element_at number_at signed_at object_at turn step_at data_at
    announced next_tag head_at member_at is_next optional_at is_opened tag_that enclosed_at values_at that_at reference_at priority_at write_property_at
    read_access_at strings_at run_at counted_at write_access_at request_at
refused_requests = (
  refused _ _ _ refl,
  refused _ _ _ refl,
  refused _ _ _ refl,
  refused _ _ _ refl,
  refused _ _ _ refl,
  refused _ _ _ refl,
  refused _ _ _ refl,
  refused _ _ _ refl,
  refused _ _ _ refl,
)

-- ---- service data of ComplexACKs

end_of_a_file : SpellsComplex 6 (FileRead true (pos 0) (0x4F ∷ 0x4B ∷ [])) (0x11 ∷ 0x0E ∷ 0x31 ∷ 0x00 ∷ 0x62 ∷ 0x4F ∷ 0x4B ∷ 0x0F ∷ [])
unfolding tag_spelling unsigned_octets signed_octets
end_of_a_file = spelled_complex _ _ (omega arith, omega arith) refl

written_at_position_2 : SpellsComplex 7 (StreamWritten (pos 2)) (0x09 ∷ 0x02 ∷ [])
unfolding tag_spelling unsigned_octets signed_octets
written_at_position_2 = spelled_complex _ _ (omega arith) refl

written_at_record_2 : SpellsComplex 7 (RecordsWritten (pos 2)) (0x19 ∷ 0x02 ∷ [])
unfolding tag_spelling unsigned_octets signed_octets
written_at_record_2 = spelled_complex _ _ (omega arith) refl

value_of_input_5 : SpellsComplex 12 (PropertyRead (input_5 None) a_real)
    (0x0C ∷ 0x00 ∷ 0x00 ∷ 0x00 ∷ 0x05 ∷ 0x19 ∷ 0x55 ∷ 0x3E ∷ 0x44 ∷ 0x43 ∷ 0x34 ∷ 0x00 ∷ 0x00 ∷ 0x3F ∷ [])
unfolding tag_spelling unsigned_octets signed_octets
value_of_input_5 = spelled_complex _ _ (is_input_5, real_is_data) refl
