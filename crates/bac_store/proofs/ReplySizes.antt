-- No reply of a store has more service data than can be sent.
use Rattle.std.proofs.Common.{◌≡◌, ℕ, zero, suc, ℤ, pos, not, nat_lt, ◌+◌, ◌≤◌, Bool, true, false, ◌==◌, List, [], ◌∷◌, length}
use Rattle.std.proofs.Common.{Option, Some, None, is_some, IfSome, if◌then◌else◌, refl, subst, arith}
use Rattle.std.specs.List.{slice_get}
use Rattle.std.specs.Option.{option_map}
use Rattle.std.proofs.lemmas.Bool.Decides.{nat_tests}
use Rattle.std.proofs.lemmas.List.{length-append, length-take, length-drop}
use Rattle.std.proofs.lemmas.List.Elements.{All-contains}
use Rattle.bac_value.specs.declared.tag.Form.{Form}
use Rattle.bac_value.specs.declared.tag.Form.TheVariants.{Length, Boolean, Opening, Closing}
use Rattle.bac_value.specs.Number.{distance, half_width_of, width_of}
use Rattle.bac_value.specs.Spelling.{Mark, form_octets, number_octets, tag_spelling}
use Rattle.bac_value.specs.Value.{Datum, ObjectId, characters, enumerated, mark_for, object, unsigned}
use Rattle.bac_value.specs.Writing.{contents_of, value_spelling}
use Rattle.bac_value.proofs.Numbers.{length-unsigned}
use Rattle.bac_service.specs.Lengths.{index_length, signed_length, unsigned_length}
use Rattle.bac_service.specs.Values.{Reference, ReadAccess, WriteAccess, Request}
use Rattle.bac_service.specs.Replies.{Reply}
use Rattle.bac_service.specs.Values.ReadAccess.{ReadStream, ReadRecords}
use Rattle.bac_service.specs.Values.WriteAccess.{WriteStream, WriteRecords}
use Rattle.bac_service.specs.Values.Complex.{PropertyRead, StreamWritten}
use Rattle.bac_service.specs.Replies.Reply.{Simple, Complex}
use Rattle.bac_service.specs.Values.Request.{ReadFile, WriteFile, ReadProperty, WriteProperty}
use Rattle.bac_store.specs.Kept.{IsInOrder, IsKept, IsShort}
use Rattle.bac_store.specs.Limits.{FILE_LIMIT, VALUE_LIMIT, FILE_ACCESS_METHOD, FILE_SIZE, OBJECT_IDENTIFIER, OBJECT_NAME, OBJECT_TYPE, STREAM_ACCESS}
use Rattle.bac_store.specs.ReplyLengths.{DATA_LIMIT, reply_length}
use Rattle.bac_store.specs.Replies.{◌⟶◌, at_file, at_object, at_property, file_of, file_read, first_case, octets_from, read_file_reply, read_reply}
use Rattle.bac_store.specs.Arrays.{elements_of, is_array, values_in}
use Rattle.bac_store.specs.Replies.{array_reply, element_reply, indexed_reply}
use Rattle.bac_store.specs.Targets.{read_in}
use Rattle.bac_store.specs.Replies.{read_start, reply_to, is_out_of_range, is_no_read_start, is_no_write_start, is_of_kind, write_file_reply, write_reply}
use Rattle.bac_store.specs.Replies.{write_start, written, PROPERTY_IS_NOT_AN_ARRAY, WRITE_ACCESS_DENIED, INVALID_DATA_TYPE, VALUE_OUT_OF_RANGE}
use Rattle.bac_store.specs.Replies.{NO_SPACE_TO_WRITE, FILE_ACCESS_DENIED, INVALID_FILE_START_POSITION}
use Rattle.bac_store.specs.Stores.{File, Object, Property, Store, access_method, computed}
use Rattle.bac_store.specs.Stores.{file_size, is_number, is_object, listed_in, object_in, property_in}
use Rattle.bac_store.proofs.ArrayLaws.{value_short}
use Rattle.bac_store.proofs.Distinct.{some_first}
use Rattle.bac_store.proofs.ReadTargets.{read_in_store}
use Rattle.bac_store.proofs.ValueData.{length_octets_most}

-- ---- lengths of spellings

form_most : (f : Form) → length (form_octets f) ≤ 5
form_most (Length k) = length_octets_most k
form_most (Boolean b) = omega arith
form_most Opening = omega arith
form_most Closing = omega arith

number_most : (n : ℕ) → length (number_octets n) ≤ 1
number_most n = grind (arith, nat_tests)

tag_most : (m : Mark) → length (tag_spelling m) ≤ 7
unfolding tag_spelling
tag_most m = omega (arith, length-append (number_octets m.number) (form_octets m.form), number_most m.number, form_most m.form)

value_most : (d : Datum) → length (value_spelling d) ≤ 7 + length (contents_of d)
value_most d =
    omega (arith, length-append (tag_spelling (mark_for d (length (contents_of d)))) (contents_of d), tag_most (mark_for d (length (contents_of d))))

tag_some : (m : Mark) → 1 ≤ length (tag_spelling m)
unfolding tag_spelling
tag_some m = omega (arith, length-append (number_octets m.number) (form_octets m.form))

pub value_some : (d : Datum) → 1 ≤ length (value_spelling d)
value_some d =
    omega (arith, length-append (tag_spelling (mark_for d (length (contents_of d)))) (contents_of d), tag_some (mark_for d (length (contents_of d))))

width_most : (n : ℕ) → width_of n ≤ 8
width_most n = grind (arith, nat_tests)

half_width_most : (n : ℕ) → half_width_of n ≤ 8
half_width_most n = grind (arith, nat_tests)

unsigned_most : (n : ℕ) → unsigned_length n ≤ 14
unsigned_most n = omega (arith, width_most n, length_octets_most (width_of n))

signed_most : (z : ℤ) → signed_length z ≤ 14
signed_most z = omega (arith, half_width_most (distance z), length_octets_most (half_width_of (distance z)))

index_most : (i : Option ℕ) → index_length i ≤ 14
index_most None = omega arith
index_most (Some n) = unsigned_most n

-- ---- values of properties

AreFew : Option Property → Type 0
AreFew x = (p : Property) → x ≡ Some p → length p.values ≤ 5000

choose : (b : Bool) (x y : Option Property) → AreFew x → AreFew y → AreFew (if b then x else y)
choose true x y f g = f
choose false x y f g = g

few : (q : Property) → length q.values ≤ 5000 → AreFew (Some q)
unfolding AreFew
few q l p e = let same : q ≡ p = cc in subst (λ x. length x.values ≤ 5000) same l

few_map : (f : Option File) (g : File → Property) → ((x : File) → length (g x).values ≤ 5000) → AreFew (option_map g f)
unfolding AreFew
few_map None g most p e = cc
few_map (Some x) g most p e = let same : g x ≡ p = cc in subst (λ y. length y.values ≤ 5000) same (most x)

number_few : (n : ℕ) → length (value_spelling (enumerated n)) ≤ 5000
number_few n = omega (arith, value_most (enumerated n), length-unsigned n, width_most n)

size_few : (n : ℕ) → length (value_spelling (unsigned n)) ≤ 5000
size_few n = omega (arith, value_most (unsigned n), length-unsigned n, width_most n)

listed_few : (o : Object) → IsKept o → (n : ℕ) → AreFew (listed_in o n)
unfolding AreFew
listed_few o k n p e = let short : IsShort p = All-contains IsShort o.properties p k.short (some_first (is_number n) o.properties p e).0 in omega arith

property_few : (o : Object) → IsKept o → (n : ℕ) → AreFew (property_in o n)
property_few o k n =
    choose (n == OBJECT_IDENTIFIER) _ _ (few (computed n (object o.id)) (omega (arith, value_most (object o.id))))
    (choose (n == OBJECT_NAME) _ _ (few (computed n (characters 0 o.name)) (omega (arith, value_most (characters 0 o.name), k.named)))
    (choose (n == OBJECT_TYPE) _ _ (few (computed n (enumerated o.id.kind)) (number_few o.id.kind))
    (choose (n == FILE_ACCESS_METHOD) _ _ (few_map o.file access_method (λ f. number_few STREAM_ACCESS))
    (choose (n == FILE_SIZE) _ _ (few_map o.file (file_size o) (λ f. size_few (length f.octets))) (listed_few o k n)))))

-- ---- replies

-- each of some replies can be sent
abbrev CanBeSent : List (Bool × Reply) → Type 0
CanBeSent [] = Unit {0}
CanBeSent (c ∷ cs) = (reply_length c.1 ≤ DATA_LIMIT) × CanBeSent cs

within : (b : Bool) (x y : Reply) → reply_length x ≤ DATA_LIMIT → reply_length y ≤ DATA_LIMIT → reply_length (if b then x else y) ≤ DATA_LIMIT
within true x y f g = f
within false x y f g = g

cases_within : (cs : List (Bool × Reply)) (last : Reply) → CanBeSent cs → reply_length last ≤ DATA_LIMIT → reply_length (first_case cs last) ≤ DATA_LIMIT
cases_within [] last few l = l
cases_within (c ∷ cs) last few l = within c.0 c.1 (first_case cs last) few.0 (cases_within cs last few.1 l)

zero_within : 0 ≤ DATA_LIMIT
zero_within = omega arith

values_within : (r : Reference) (values : List ℕ) → length values ≤ 5000 → reply_length (Complex (PropertyRead r values)) ≤ DATA_LIMIT
values_within r values most = omega (arith, unsigned_most r.property, index_most r.index)

element_within : (r : Reference) (x : Option (List ℕ)) → ((v : List ℕ) → x ≡ Some v → length v ≤ 5000) → reply_length (element_reply r x) ≤ DATA_LIMIT
element_within r None few = omega arith
element_within r (Some v) few = values_within r v (few v refl)

array_within : (r : Reference) (index : ℕ) (x : Option (List (List ℕ)))
    → ((vs : List (List ℕ)) → x ≡ Some vs → (at : ℕ) (v : List ℕ) → slice_get vs at ≡ Some v → length v ≤ 5000)
    → reply_length (array_reply r index x) ≤ DATA_LIMIT
array_within r index None few = omega arith
array_within r zero (Some es) few = values_within r (value_spelling (unsigned (length es))) (size_few (length es))
array_within r (suc at) (Some es) few = element_within r (slice_get es at) (few es refl at)

elements_few : (p : Property) → length p.values ≤ 5000 → (vs : List (List ℕ)) → elements_of p ≡ Some vs → (at : ℕ) (v : List ℕ) → slice_get vs at ≡ Some v
    → length v ≤ 5000
elements_few p most vs e at v h = go (is_array p.number) e
  where
    go : (b : Bool) → (if b then values_in p.values else None) ≡ Some vs → length v ≤ 5000
    go true is = omega (arith, value_short p.values (length p.values) vs is at v h, most)
    go false is = cc

indexed_within : (r : Reference) (p : Property) → length p.values ≤ 5000 → (index : Option ℕ) → reply_length (indexed_reply r p index) ≤ DATA_LIMIT
indexed_within r p most None = values_within r p.values most
indexed_within r p most (Some index) = array_within r index (elements_of p) (elements_few p most)

read_within : (x : Option Property) → AreFew x → (r : Reference) → reply_length (at_property x (read_reply r)) ≤ DATA_LIMIT
unfolding AreFew
read_within None f r = omega arith
read_within (Some p) f r = indexed_within r p (f p refl) r.index

write_within : (x : Option Property) (r : Reference) (values : List ℕ) → reply_length (at_property x (write_reply r values)) ≤ DATA_LIMIT
write_within None r values = omega arith
write_within (Some p) r values =
    cases_within
    ((is_some r.index ⟶ PROPERTY_IS_NOT_AN_ARRAY)
    ∷ (not p.writable ⟶ WRITE_ACCESS_DENIED)
    ∷ (not (is_of_kind p.kind values) ⟶ INVALID_DATA_TYPE)
    ∷ (is_out_of_range r values p ⟶ VALUE_OUT_OF_RANGE)
    ∷ (nat_lt VALUE_LIMIT (length values) ⟶ NO_SPACE_TO_WRITE)
    ∷ [])
    Simple (zero_within, (zero_within, (zero_within, (zero_within, (zero_within, tt))))) zero_within

octets_from_most : (start count : ℕ) (octets : List ℕ) → length (octets_from start count octets) ≤ length octets
octets_from_most start count octets = simp (length-take, length-drop) (omega arith)

read_file_within : (access : ReadAccess) (f : Option File) → IfSome f (λ g. length g.octets ≤ FILE_LIMIT)
    → reply_length (at_file f (read_file_reply access)) ≤ DATA_LIMIT
read_file_within access None h = omega arith
read_file_within (ReadRecords start count) (Some f) h = omega arith
read_file_within (ReadStream start count) (Some f) h =
    let xs = octets_from (read_start start) count f.octets in
    cases_within ((is_no_read_start start f.octets ⟶ INVALID_FILE_START_POSITION) ∷ []) (file_read (read_start start) count f.octets) (zero_within, tt)
    (omega (arith, octets_from_most (read_start start) count f.octets, signed_most (pos (read_start start)), length_octets_most (length xs)))

write_file_within : (access : WriteAccess) (f : Option File) → reply_length (at_file f (write_file_reply access)) ≤ DATA_LIMIT
write_file_within access None = omega arith
write_file_within (WriteRecords start count run) (Some f) = omega arith
write_file_within (WriteStream start new) (Some f) =
    cases_within
    ((not f.writable ⟶ FILE_ACCESS_DENIED)
    ∷ (is_no_write_start start f.octets ⟶ INVALID_FILE_START_POSITION)
    ∷ (nat_lt FILE_LIMIT (length (written start new f.octets)) ⟶ NO_SPACE_TO_WRITE)
    ∷ [])
    (Complex (StreamWritten (pos (write_start start f.octets)))) (zero_within, (zero_within, (zero_within, tt)))
    (omega (arith, signed_most (pos (write_start start f.octets))))

-- ---- all of them

kept_object : (s : Store) → IsInOrder s → (id : ObjectId) (o : Object) → object_in s id ≡ Some o → IsKept o
kept_object s k id o e = All-contains IsKept s o k.each (some_first (is_object id) s o e).0

kept_target : (s : Store) → IsInOrder s → (id : ObjectId) (o : Object) → read_in s id ≡ Some o → IsKept o
kept_target s k id o e = let f = read_in_store s id o e in kept_object s k f.id o f.found

at_object_within : (x : Option Object) (answer : Object → Reply) → ((o : Object) → x ≡ Some o → reply_length (answer o) ≤ DATA_LIMIT)
    → reply_length (at_object x answer) ≤ DATA_LIMIT
at_object_within None answer f = omega arith
at_object_within (Some o) answer f = f o refl

file_fits : (x : Option Object) → ((o : Object) → x ≡ Some o → IsKept o) → IfSome (file_of x) (λ g. length g.octets ≤ FILE_LIMIT)
file_fits None f = tt
file_fits (Some o) f = (f o refl).file_fits

pub replies_within : (s : Store) → IsInOrder s → (r : Request) → reply_length (reply_to s r) ≤ DATA_LIMIT
replies_within s k (ReadFile id access) = read_file_within access (file_of (object_in s id)) (file_fits (object_in s id) (kept_object s k id))
replies_within s k (WriteFile id access) = write_file_within access (file_of (object_in s id))
replies_within s k (ReadProperty r) =
    at_object_within (read_in s r.object) (λ o. at_property (property_in o r.property) (read_reply r))
    (λ o e. read_within (property_in o r.property) (property_few o (kept_target s k r.object o e) r.property) r)
replies_within s k (WriteProperty r values priority) =
    at_object_within (object_in s r.object) (λ o. at_property (property_in o r.property) (write_reply r values))
    (λ o e. write_within (property_in o r.property) r values)
