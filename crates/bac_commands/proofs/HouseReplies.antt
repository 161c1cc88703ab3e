-- Each reply of the house is short.
use Rattle.std.proofs.Common.{◌≡◌, ℕ, pos, ◌<◌, ◌≤◌, Bool, true, false, not, ◌==◌, nat_lt, List, [], ◌∷◌, length, drop, Option, Some, None, IfSome}
use Rattle.std.proofs.Common.{is_some, if◌then◌else◌, refl, sym, subst, inl, inr, arith}
use Rattle.std.specs.Option.{option_map}
use Rattle.std.specs.List.{AllByRecursion as Each}
use Rattle.std.proofs.lemmas.List.{length-append, length-take, length-drop}
use Rattle.std.proofs.lemmas.Bool.{lt-ltb, le-ltb, cases_lt}
use Rattle.std.proofs.lemmas.Bool.Decides.{nat_tests}
use Rattle.bac_value.specs.declared.tag.Class.{Class}
use Rattle.bac_value.specs.declared.tag.Class.TheVariants.{Application}
use Rattle.bac_value.specs.Spelling.{tag_spelling}
use Rattle.bac_value.specs.Value.{ObjectId, unsigned, enumerated, characters, object, real}
use Rattle.bac_value.specs.Writing.{length_mark, object_octets, primitive, value_spelling}
use Rattle.bac_value.specs.Number.{unsigned_octets}
use Rattle.bac_value.proofs.Numbers.{length-unsigned}
use Rattle.bac_service.specs.Values.{Reference, ReadAccess, WriteAccess, Request}
use Rattle.bac_service.specs.Replies.{Reply}
use Rattle.bac_service.specs.Values.ReadAccess.{ReadStream, ReadRecords}
use Rattle.bac_service.specs.Values.WriteAccess.{WriteStream, WriteRecords}
use Rattle.bac_service.specs.Values.Request.{ReadFile, WriteFile, ReadProperty, WriteProperty}
use Rattle.bac_service.specs.Replies.Reply.{Simple, Complex}
use Rattle.bac_service.specs.Values.Complex.{StreamWritten}
use Rattle.bac_store.specs.Limits.{FILE_ACCESS_METHOD, FILE_SIZE, OBJECT_IDENTIFIER, OBJECT_NAME, OBJECT_TYPE, FILE_LIMIT, VALUE_LIMIT}
use Rattle.bac_store.specs.Stores.{Store, Object, Property, File, first_that, object_in, listed_in, is_number, is_object, property_in, computed}
use Rattle.bac_store.specs.Stores.{access_method, file_size}
use Rattle.bac_store.specs.Replies.{PROPERTY_IS_NOT_AN_ARRAY, WRITE_ACCESS_DENIED, INVALID_DATA_TYPE, VALUE_OUT_OF_RANGE}
use Rattle.bac_store.specs.Replies.{NO_SPACE_TO_WRITE, FILE_ACCESS_DENIED, INVALID_FILE_START_POSITION}
use Rattle.bac_store.specs.Replies.{at_object, at_property, at_file, file_of, read_reply, write_reply, is_of_kind, is_out_of_range}
use Rattle.bac_store.specs.Replies.{array_reply, indexed_reply}
use Rattle.bac_store.specs.Replies.{file_read, read_start, is_no_read_start, read_file_reply, octets_from, write_start, is_no_write_start, written}
use Rattle.bac_store.specs.Replies.{write_file_reply, reply_to}
use Rattle.bac_store.specs.Arrays.{is_array, values_in}
use Rattle.bac_store.specs.House.{house, flow, setpoint, pump, house_device, log}
use Rattle.bac_store.specs.Targets.{read_in}
use Rattle.bac_store.proofs.ReadTargets.{read_in_store}
use Rattle.bac_commands.specs.ReplyApdus.{IsShort}
use Rattle.bac_commands.proofs.ShortReplies.{width_few, read_short, file_short, written_short}

-- what holds of both branches holds of the choice
if_both : {A : Type 0} (P : A → Type 0) (test : Bool) (x y : A) → (test ≡ true → P x) → (test ≡ false → P y) → P (if test then x else y)
if_both P true x y p q = p refl
if_both P false x y p q = q refl

-- ---- looking up

first_each : {A : Type 0} (P : A → Type 0) (test : A → Bool) (xs : List A) → Each P xs → IfSome (first_that test xs) P
first_each P test [] each = tt
first_each P test (x ∷ xs) each = if_both (λ found. IfSome found P) (test x) (Some x) (first_that test xs) (λ e. each.0) (λ e. first_each P test xs each.1)

-- ---- small objects: names, values and files of few octets, and no arrays

record IsSmallProperty (p : Property) : Type 0 where
  values : length p.values ≤ 30
  single : is_array p.number ≡ false

abbrev IsSmallFile : File → Type 0
IsSmallFile f = length f.octets ≤ 30

record IsSmall (o : Object) : Type 0 where
  name : length o.name ≤ 8
  listed : Each IsSmallProperty o.properties
  file : IfSome o.file IsSmallFile

tag_short : (class : Class) (number k : ℕ) → number < 15 → k < 254 → length (tag_spelling (length_mark class number k)) ≤ 2
unfolding tag_spelling
tag_short class number k small few =
    elim (cases_lt k 5) [
      | inl a ↦ rw (lt-ltb number 15 small, lt-ltb k 5 a) (omega arith)
      | inr b ↦ rw (lt-ltb number 15 small, le-ltb k 5 b, lt-ltb k 254 few) (omega arith)
    ]

primitive_short : (number : ℕ) (xs : List ℕ) → number < 15 → length xs ≤ 20 → length (primitive Application number xs) ≤ 30
primitive_short number xs small few =
    omega (
      arith,
      length-append (tag_spelling (length_mark Application number (length xs))) xs,
      tag_short Application number (length xs) small
          (omega (arith, few)),
      few,
    )

number_short : (n : ℕ) → length (unsigned_octets n) ≤ 20
number_short n = omega (arith, length-unsigned n, width_few n)

identifier_small : (o : ObjectId) → length (value_spelling (object o)) ≤ 30
identifier_small o = primitive_short 12 (object_octets o) (omega arith) (omega arith)

name_small : (name : List ℕ) → length name ≤ 8 → length (value_spelling (characters 0 name)) ≤ 30
name_small name few = primitive_short 7 (0 ∷ name) (omega arith) (omega (arith, few))

enumerated_small : (n : ℕ) → length (value_spelling (enumerated n)) ≤ 30
enumerated_small n = primitive_short 9 (unsigned_octets n) (omega arith) (number_short n)

real_small : (a : List ℕ) → length a ≤ 20 → length (value_spelling (real a)) ≤ 30
real_small a few = primitive_short 4 a (omega arith) few

unsigned_small : (n : ℕ) → length (value_spelling (unsigned n)) ≤ 30
unsigned_small n = primitive_short 2 (unsigned_octets n) (omega arith) (number_short n)

-- a property with a number that is not that of an array
alone : (n k : ℕ) → (n == k) ≡ true → is_array k ≡ false → is_array n ≡ false
alone n k e single = let same : n ≡ k = grind (arith, nat_tests) in subst (λ m. is_array m ≡ false) (sym same) single

mapped : {A B : Type 0} (P : B → Type 0) (f : A → B) (found : Option A) → ((x : A) → P (f x)) → IfSome (option_map f found) P
mapped P f None each = tt
mapped P f (Some x) each = each x

abbrev IsSmallFound : Option Property → Type 0
IsSmallFound found = IfSome found IsSmallProperty

abbrev sized : Object → ℕ → Option Property
sized o n = if n == FILE_SIZE then option_map (file_size o) o.file else listed_in o n

abbrev accessed : Object → ℕ → Option Property
accessed o n = if n == FILE_ACCESS_METHOD then option_map access_method o.file else sized o n

abbrev typed : Object → ℕ → Option Property
typed o n = if n == OBJECT_TYPE then Some (computed n (enumerated o.id.kind)) else accessed o n

abbrev named : Object → ℕ → Option Property
named o n = if n == OBJECT_NAME then Some (computed n (characters 0 o.name)) else typed o n

sized_small : (o : Object) (n : ℕ) → IsSmall o → IsSmallFound (sized o n)
sized_small o n small =
    if_both IsSmallFound (n == FILE_SIZE) (option_map (file_size o) o.file) (listed_in o n)
    (λ e. mapped IsSmallProperty (file_size o) o.file (λ f. record { values = unsigned_small (length f.octets); single = refl }))
    (λ e. first_each IsSmallProperty (is_number n) o.properties small.listed)

accessed_small : (o : Object) (n : ℕ) → IsSmall o → IsSmallFound (accessed o n)
accessed_small o n small =
    if_both IsSmallFound (n == FILE_ACCESS_METHOD) (option_map access_method o.file) (sized o n)
    (λ e. mapped IsSmallProperty access_method o.file (λ f. record { values = enumerated_small 1; single = refl }))
    (λ e. sized_small o n small)

typed_small : (o : Object) (n : ℕ) → IsSmall o → IsSmallFound (typed o n)
typed_small o n small =
    if_both IsSmallFound (n == OBJECT_TYPE) (Some (computed n (enumerated o.id.kind))) (accessed o n)
    (λ e. record { values = enumerated_small o.id.kind; single = alone n OBJECT_TYPE e refl })
    (λ e. accessed_small o n small)

named_small : (o : Object) (n : ℕ) → IsSmall o → IsSmallFound (named o n)
named_small o n small =
    if_both IsSmallFound (n == OBJECT_NAME) (Some (computed n (characters 0 o.name))) (typed o n)
    (λ e. record { values = name_small o.name small.name; single = alone n OBJECT_NAME e refl })
    (λ e. typed_small o n small)

property_small : (o : Object) (n : ℕ) → IsSmall o → IsSmallFound (property_in o n)
property_small o n small =
    if_both IsSmallFound (n == OBJECT_IDENTIFIER) (Some (computed n (object o.id))) (named o n)
    (λ e. record { values = identifier_small o.id; single = alone n OBJECT_IDENTIFIER e refl })
    (λ e. named_small o n small)

-- ---- replies

-- what is no array has no elements
no_elements : (array : Bool) (values : Option (List (List ℕ))) → array ≡ false → (if array then values else None) ≡ None
no_elements true values e = cc
no_elements false values e = refl

property_read_short : (r : Reference) (p : Property) → IsSmallProperty p → IsShort (read_reply r p)
property_read_short r p small = go r.index refl
  where
    go : (index : Option ℕ) → r.index ≡ index → IsShort (indexed_reply r p index)
    go None e = read_short r p.values e small.values
    go (Some i) e = subst (λ es. IsShort (array_reply r i es)) (sym (no_elements (is_array p.number) (values_in p.values) small.single)) tt

five_short : (a b c d e : Bool)
    → IsShort (if a then PROPERTY_IS_NOT_AN_ARRAY else (if b then WRITE_ACCESS_DENIED else
    (if c then INVALID_DATA_TYPE else (if d then VALUE_OUT_OF_RANGE else (if e then NO_SPACE_TO_WRITE else Simple)))))
five_short true b c d e = tt
five_short false true c d e = tt
five_short false false true d e = tt
five_short false false false true e = tt
five_short false false false false true = tt
five_short false false false false false = tt

property_written_short : (r : Reference) (values : List ℕ) (p : Property) → IsShort (write_reply r values p)
property_written_short r values p =
    five_short (is_some r.index) (not p.writable) (not (is_of_kind p.kind values)) (is_out_of_range r values p)
    (nat_lt VALUE_LIMIT (length values))

file_read_short : (start count : ℕ) (octets : List ℕ) → length octets ≤ 30 → IsShort (file_read start count octets)
file_read_short start count octets few =
    file_short _ (pos start) (octets_from start count octets) (omega (arith, length-take count (drop start octets), length-drop start octets, few))

read_file_short : (access : ReadAccess) (f : File) → IsSmallFile f → IsShort (read_file_reply access f)
read_file_short (ReadRecords start count) f small = tt
read_file_short (ReadStream start count) f small =
    if_both IsShort (is_no_read_start start f.octets) INVALID_FILE_START_POSITION (file_read (read_start start) count f.octets) (λ e. tt)
    (λ e. file_read_short (read_start start) count f.octets small)

three_short : (a b c : Bool) (last : Reply) → IsShort last
    → IsShort (if a then FILE_ACCESS_DENIED else (if b then INVALID_FILE_START_POSITION else (if c then NO_SPACE_TO_WRITE else last)))
three_short true b c last short = tt
three_short false true c last short = tt
three_short false false true last short = tt
three_short false false false last short = short

write_file_short : (access : WriteAccess) (f : File) → IsShort (write_file_reply access f)
write_file_short (WriteRecords start count run) f = tt
write_file_short (WriteStream start octets) f =
    let start_at = pos (write_start start f.octets) in
    three_short (not f.writable) (is_no_write_start start f.octets) (nat_lt FILE_LIMIT (length (written start octets f.octets)))
    (Complex (StreamWritten start_at)) (written_short start_at)

at_object_short : (found : Option Object) (answer : Object → Reply) → IfSome found IsSmall → ((o : Object) → IsSmall o → IsShort (answer o))
    → IsShort (at_object found answer)
at_object_short None answer small each = tt
at_object_short (Some o) answer small each = each o small

at_property_short : (found : Option Property) (answer : Property → Reply) → IsSmallFound found → ((p : Property) → IsSmallProperty p → IsShort (answer p))
    → IsShort (at_property found answer)
at_property_short None answer small each = tt
at_property_short (Some p) answer small each = each p small

at_file_short : (found : Option File) (answer : File → Reply) → IfSome found IsSmallFile → ((f : File) → IsSmallFile f → IsShort (answer f))
    → IsShort (at_file found answer)
at_file_short None answer small each = tt
at_file_short (Some f) answer small each = each f small

file_small : (found : Option Object) → IfSome found IsSmall → IfSome (file_of found) IsSmallFile
file_small None small = tt
file_small (Some o) small = small.file

-- a target of a read is an object of the store
target_small : (s : Store) (id : ObjectId) → Each IsSmall s → IfSome (read_in s id) IsSmall
target_small s id each = go (read_in s id) refl
  where
    go : (found : Option Object) → read_in s id ≡ found → IfSome found IsSmall
    go None e = tt
    go (Some o) e =
        let there = read_in_store s id o e in
        subst (λ found. IfSome found IsSmall) there.found (first_each IsSmall (is_object there.id) s each)

small_short : (s : Store) → Each IsSmall s → (r : Request) → IsShort (reply_to s r)
small_short s each (ReadFile id access) =
    at_file_short (file_of (object_in s id)) (read_file_reply access) (file_small (object_in s id) (first_each IsSmall (is_object id) s each))
    (read_file_short access)
small_short s each (WriteFile id access) =
    at_file_short (file_of (object_in s id)) (write_file_reply access) (file_small (object_in s id) (first_each IsSmall (is_object id) s each))
    (λ f small. write_file_short access f)
small_short s each (ReadProperty r) =
    at_object_short (read_in s r.object) (λ o. at_property (property_in o r.property) (read_reply r)) (target_small s r.object each)
    (λ o small. at_property_short (property_in o r.property) (read_reply r) (property_small o r.property small) (property_read_short r))
small_short s each (WriteProperty r values priority) =
    at_object_short (object_in s r.object) (λ o. at_property (property_in o r.property) (write_reply r values)) (first_each IsSmall (is_object r.object) s each)
    (λ o small. at_property_short (property_in o r.property) (write_reply r values) (property_small o r.property small)
    (λ p few. property_written_short r values p))

-- ---- the house

flow_small : IsSmall flow
flow_small = record {
  name = omega arith;
  listed = (record { values = real_small (0x42 ∷ 0x90 ∷ 0x99 ∷ 0x9A ∷ []) (omega arith); single = refl }, tt);
  file = tt;
}

setpoint_small : IsSmall setpoint
setpoint_small = record {
  name = omega arith;
  listed = (
    record { values = name_small [] (omega arith); single = refl },
    (record { values = real_small (0 ∷ 0 ∷ 0 ∷ 0 ∷ []) (omega arith); single = refl }, tt),
  );
  file = tt;
}

pump_small : IsSmall pump
pump_small = record { name = omega arith; listed = (record { values = enumerated_small 0; single = refl }, tt); file = tt }

device_small : IsSmall house_device
device_small = record { name = omega arith; listed = tt; file = tt }

log_small : IsSmall log
log_small = record { name = omega arith; listed = tt; file = omega arith }

pub house_short : (r : Request) → IsShort (reply_to house r)
house_short = small_short house (flow_small, (setpoint_small, (pump_small, (device_small, (log_small, tt)))))
