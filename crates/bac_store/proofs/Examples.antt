-- The rows of the reply tables, computed from the definitions.
use Rattle.std.specs.Prelude.{◌≡◌, ℕ, ◌<◌, ◌==◌, pos, negsuc, Bool, true, false, List, [], ◌∷◌, Option, Some, None}
use Rattle.std.specs.Option.{option_map}
use Rattle.std.proofs.Common.{refl, ap, arith}
use Rattle.std.proofs.lemmas.Bool.Decides.{nat_tests}
use Rattle.bac_value.specs.Value.{ObjectId}
use Rattle.bac_value.specs.Spelling.{tag_spelling}
use Rattle.bac_value.specs.Number.{unsigned_octets}
use Rattle.bac_value.specs.Reading.{element_at, tag_at, tag_number_at, form_at, length_at, contents_at, class_at, kind_at, number_at, raw_at}
use Rattle.bac_service.specs.Values.{Reference, ReadAccess, WriteAccess, Request}
use Rattle.bac_service.specs.Values.ReadAccess.{ReadStream, ReadRecords}
use Rattle.bac_service.specs.Values.WriteAccess.{WriteStream, WriteRecords}
use Rattle.bac_service.specs.Values.Request.{ReadFile, WriteFile, ReadProperty, WriteProperty}
use Rattle.bac_service.specs.Values.Complex.{FileRead, StreamWritten, PropertyRead}
use Rattle.bac_service.specs.Replies.Reply.{Simple, Complex, Error}
use Rattle.bac_store.specs.Allowing.Allowed.{Any}
use Rattle.bac_store.specs.Arrays.{values_from}
use Rattle.bac_store.specs.Kinds.{kind_of}
use Rattle.bac_store.specs.Targets.{described_device, device, lists_objects, or_object}
use Rattle.bac_store.proofs.ReadTargets.{among_first}
use Rattle.bac_service.specs.Replies.{Reply}
use Rattle.bac_store.specs.Stores.{Object, Store, object_in}
use Rattle.bac_store.specs.Replies.{reply_to, file_of, is_right_state, of_property, read_reply}
use Rattle.bac_store.specs.Changes.{after}
use Rattle.bac_store.specs.House.{house}

abbrev id : ℕ → ℕ → ObjectId
id kind instance = record { kind = kind; instance = instance }

abbrev to : ℕ → ℕ → ℕ → Reference
to kind instance number = record { object = id kind instance; property = number; index = None }

abbrev real_of : ℕ → ℕ → List ℕ
real_of a b = 0x44 ∷ a ∷ b ∷ 0 ∷ 0 ∷ []

-- ---- properties of the house

reads_flow : reply_to house (ReadProperty (to 0 5 85)) ≡ Complex (PropertyRead (to 0 5 85) (0x44 ∷ 0x42 ∷ 0x90 ∷ 0x99 ∷ 0x9A ∷ []))
unfolding tag_spelling
reads_flow = refl

reads_name : reply_to house (ReadProperty (to 8 1 77)) ≡ Complex (PropertyRead (to 8 1 77) (0x75 ∷ 6 ∷ 0 ∷ 0x68 ∷ 0x6F ∷ 0x75 ∷ 0x73 ∷ 0x65 ∷ []))
unfolding tag_spelling
reads_name = refl

reads_size : reply_to house (ReadProperty (to 10 1 42)) ≡ Complex (PropertyRead (to 10 1 42) (0x21 ∷ 2 ∷ []))
unfolding tag_spelling unsigned_octets
reads_size = refl

reads_access_method : reply_to house (ReadProperty (to 10 1 41)) ≡ Complex (PropertyRead (to 10 1 41) (0x91 ∷ 1 ∷ []))
unfolding tag_spelling unsigned_octets
reads_access_method = refl

reads_identifier : reply_to house (ReadProperty (to 0 5 75)) ≡ Complex (PropertyRead (to 0 5 75) (0xC4 ∷ 0 ∷ 0 ∷ 0 ∷ 5 ∷ []))
unfolding tag_spelling
reads_identifier = refl

reads_type : reply_to house (ReadProperty (to 5 1 79)) ≡ Complex (PropertyRead (to 5 1 79) (0x91 ∷ 5 ∷ []))
unfolding tag_spelling unsigned_octets
reads_type = refl

no_object : reply_to house (ReadProperty (to 0 9 85)) ≡ Error 1 31
no_object = refl

no_property : reply_to house (ReadProperty (to 0 5 28)) ≡ Error 2 32
no_property = refl

no_file_size : reply_to house (ReadProperty (to 0 5 42)) ≡ Error 2 32
no_file_size = refl

no_array : reply_to house (ReadProperty (record { object = id 0 5; property = 85; index = Some 0 })) ≡ Error 2 50
no_array = refl

not_writable : reply_to house (WriteProperty (to 0 5 85) (real_of 0 0) None) ≡ Error 2 40
not_writable = refl

computed_not_writable : reply_to house (WriteProperty (to 0 5 77) (real_of 0 0) None) ≡ Error 2 40
computed_not_writable = refl

out_of_range : reply_to house (WriteProperty (to 5 1 85) (0x91 ∷ 2 ∷ []) None) ≡ Error 2 37
unfolding element_at tag_at tag_number_at form_at length_at contents_at class_at kind_at raw_at is_right_state
out_of_range = refl

other_kind : reply_to house (WriteProperty (to 5 1 85) (0x21 ∷ 1 ∷ []) None) ≡ Error 2 9
unfolding element_at tag_at tag_number_at form_at length_at contents_at class_at kind_at raw_at is_right_state
other_kind = refl

two_values : reply_to house (WriteProperty (to 5 1 85) (0x91 ∷ 1 ∷ 0x91 ∷ 1 ∷ []) None) ≡ Error 2 9
unfolding element_at tag_at tag_number_at form_at length_at contents_at class_at kind_at raw_at is_right_state
two_values = refl

writes_setpoint : reply_to house (WriteProperty (to 2 1 85) (real_of 0x43 0x34) None) ≡ Simple
unfolding element_at tag_at tag_number_at form_at length_at contents_at class_at kind_at raw_at is_right_state
writes_setpoint = refl

setpoint_is_written : reply_to (after house (WriteProperty (to 2 1 85) (real_of 0x43 0x34) None)) (ReadProperty (to 2 1 85)) ≡ Complex
    (PropertyRead (to 2 1 85) (real_of 0x43 0x34))
unfolding element_at tag_at tag_number_at form_at length_at contents_at class_at kind_at raw_at is_right_state
setpoint_is_written = refl

refused_write_changes_nothing : after house (WriteProperty (to 0 5 85) (real_of 0 0) None) ≡ house
refused_write_changes_nothing = refl

read_changes_nothing : after house (ReadProperty (to 0 5 85)) ≡ house
read_changes_nothing = refl

-- ---- a described store: a device, a file, and an array that is none

abbrev described : Store
described =
    record {
      id = id 8 7;
      name = 0x67 ∷ [];
      properties = record { number = 76; values = 0xC4 ∷ 2 ∷ 0 ∷ 0 ∷ 7 ∷ 0xC4 ∷ 2 ∷ 0x80 ∷ 0 ∷ 1 ∷ []; writable = false; kind = None; allowed = Any }
          ∷ record { number = 371; values = 0x2E ∷ 0x2F ∷ []; writable = false; kind = None; allowed = Any }
          ∷ record { number = 512; values = 0x21 ∷ 1 ∷ 0x21 ∷ 2 ∷ []; writable = false; kind = None; allowed = Any }
          ∷ [];
      file = None;
    }
    ∷ record { id = id 10 1; name = 0x66 ∷ []; properties = []; file = Some (record { octets = 0x4F ∷ 0x4B ∷ []; writable = true }) }
    ∷ []

abbrev nth : ℕ → ℕ → ℕ → ℕ → Reference
nth kind instance number index = record { object = id kind instance; property = number; index = Some index }

earlier_device : (i : ℕ) → i < 7 → lists_objects (object_in described (device i)) ≡ false
earlier_device i less = go (7 == i) refl
  where
    go : (b : Bool) → (7 == i) ≡ b → lists_objects (object_in described (device i)) ≡ false
    go true e = absurd (grind (arith, nat_tests))
    go false e = let other : (i == 7) ≡ false = grind (arith, nat_tests) in rw other refl

found_device : described_device described ≡ object_in described (id 8 7)
found_device = among_first described 7 refl earlier_device 4194304 0 (omega arith) (omega arith)

abbrev by_device : Reference → Option Object → Reply
by_device r x = of_property (or_object x None) r (read_reply r)

any_device : reply_to described (ReadProperty (to 8 4194303 75)) ≡ Complex (PropertyRead (to 8 4194303 75) (0xC4 ∷ 2 ∷ 0 ∷ 0 ∷ 7 ∷ []))
unfolding tag_spelling
any_device = ap (by_device (to 8 4194303 75)) found_device

any_file : reply_to described (ReadProperty (to 10 4194303 75)) ≡ Error 1 31
any_file = refl

device_itself : reply_to described (ReadProperty (to 8 7 77)) ≡ Complex (PropertyRead (to 8 7 77) (0x72 ∷ 0 ∷ 0x67 ∷ []))
unfolding tag_spelling
device_itself = refl

any_device_is_not_written : reply_to described (WriteProperty (to 8 4194303 76) [] None) ≡ Error 1 31
any_device_is_not_written = refl

how_many : reply_to described (ReadProperty (nth 8 7 76 0)) ≡ Complex (PropertyRead (nth 8 7 76 0) (0x21 ∷ 2 ∷ []))
unfolding values_from element_at tag_at tag_number_at form_at length_at contents_at class_at kind_at raw_at tag_spelling unsigned_octets
how_many = refl

first_element : reply_to described (ReadProperty (nth 8 7 76 1)) ≡ Complex (PropertyRead (nth 8 7 76 1) (0xC4 ∷ 2 ∷ 0 ∷ 0 ∷ 7 ∷ []))
unfolding values_from element_at tag_at tag_number_at form_at length_at contents_at class_at kind_at raw_at
first_element = refl

last_element : reply_to described (ReadProperty (nth 8 4194303 76 2)) ≡ Complex (PropertyRead (nth 8 4194303 76 2) (0xC4 ∷ 2 ∷ 0x80 ∷ 0 ∷ 1 ∷ []))
unfolding values_from element_at tag_at tag_number_at form_at length_at contents_at class_at kind_at raw_at
last_element = ap (by_device (nth 8 4194303 76 2)) found_device

no_element : reply_to described (ReadProperty (nth 8 7 76 3)) ≡ Error 2 42
unfolding values_from element_at tag_at tag_number_at form_at length_at contents_at class_at kind_at raw_at
no_element = refl

-- the number of an array, but other elements; and values of a property that is no array
no_values : reply_to described (ReadProperty (nth 8 7 371 1)) ≡ Error 2 50
unfolding values_from element_at tag_at tag_number_at form_at length_at contents_at class_at kind_at raw_at
no_values = refl

not_an_array : reply_to described (ReadProperty (nth 8 7 512 1)) ≡ Error 2 50
not_an_array = refl

element_is_not_written : reply_to described (WriteProperty (nth 8 7 76 1) (0xC4 ∷ 2 ∷ 0 ∷ 0 ∷ 8 ∷ []) None) ≡ Error 2 50
element_is_not_written = refl

-- ---- the size of a file: one that lists read-only, one that is not writable, and that of the house

abbrev octets_of : Store → Option (List ℕ)
octets_of s = option_map (λ f. f.octets) (file_of (object_in s (id 10 1)))

abbrev sized_file : Bool → Store
sized_file writable =
    record {
      id = id 10 1;
      name = 0x66 ∷ [];
      properties = record { number = 99; values = 0x10 ∷ []; writable = false; kind = Some 1; allowed = Any } ∷ [];
      file = Some (record { octets = 0x4F ∷ 0x4B ∷ 0x21 ∷ []; writable = writable });
    }
    ∷ []

abbrev set_size : List ℕ → Request
set_size values = WriteProperty (to 10 1 42) values None

size_is_set : reply_to (sized_file true) (set_size (0x21 ∷ 1 ∷ [])) ≡ Simple
unfolding element_at tag_at tag_number_at form_at length_at contents_at class_at kind_at number_at raw_at is_right_state
size_is_set = refl

is_cut : octets_of (after (sized_file true) (set_size (0x21 ∷ 1 ∷ []))) ≡ Some (0x4F ∷ [])
unfolding element_at tag_at tag_number_at form_at length_at contents_at class_at kind_at number_at raw_at is_right_state
is_cut = refl

is_emptied : octets_of (after (sized_file true) (set_size (0x21 ∷ 0 ∷ []))) ≡ Some []
unfolding element_at tag_at tag_number_at form_at length_at contents_at class_at kind_at number_at raw_at is_right_state
is_emptied = refl

is_extended : octets_of (after (sized_file true) (set_size (0x21 ∷ 5 ∷ []))) ≡ Some (0x4F ∷ 0x4B ∷ 0x21 ∷ 0 ∷ 0 ∷ [])
unfolding element_at tag_at tag_number_at form_at length_at contents_at class_at kind_at number_at raw_at is_right_state
is_extended = refl

greatest_size : reply_to (sized_file true) (set_size (0x22 ∷ 0xEA ∷ 0x60 ∷ [])) ≡ Simple
unfolding element_at tag_at tag_number_at form_at length_at contents_at class_at kind_at number_at raw_at is_right_state
greatest_size = refl

size_above : reply_to (sized_file true) (set_size (0x22 ∷ 0xEA ∷ 0x61 ∷ [])) ≡ Error 2 37
unfolding element_at tag_at tag_number_at form_at length_at contents_at class_at kind_at number_at raw_at is_right_state
size_above = refl

size_of_other_kind : reply_to (sized_file true) (set_size (0x91 ∷ 1 ∷ [])) ≡ Error 2 9
unfolding element_at tag_at tag_number_at form_at length_at contents_at class_at kind_at number_at raw_at is_right_state
size_of_other_kind = refl

size_of_read_only : reply_to (sized_file false) (set_size (0x21 ∷ 1 ∷ [])) ≡ Error 2 40
size_of_read_only = refl

size_in_house : reply_to house (set_size (0x21 ∷ 1 ∷ [])) ≡ Error 2 40
size_in_house = refl

-- ---- the file of the house

abbrev write : WriteAccess → Request
write access = WriteFile (id 10 1) access

abbrev read : ReadAccess → Request
read access = ReadFile (id 10 1) access

writes_records : reply_to house (write (WriteRecords (pos 0) 1 (0x62 ∷ 0xAB ∷ 0xCD ∷ []))) ≡ Error 5 10
writes_records = refl

writes_after_the_end : reply_to house (write (WriteStream (pos 3) (0xAA ∷ []))) ≡ Error 5 11
writes_after_the_end = refl

writes_below : reply_to house (write (WriteStream (negsuc 1) (0xAA ∷ []))) ≡ Error 5 11
writes_below = refl

appends_nothing : reply_to house (write (WriteStream (negsuc 0) [])) ≡ Complex (StreamWritten (pos 2))
appends_nothing = refl

nothing_appended : octets_of (after house (write (WriteStream (negsuc 0) []))) ≡ Some (0x4F ∷ 0x4B ∷ [])
nothing_appended = refl

overwrites : reply_to house (write (WriteStream (pos 1) (0xAA ∷ 0xBB ∷ []))) ≡ Complex (StreamWritten (pos 1))
overwrites = refl

overwritten_and_longer : octets_of (after house (write (WriteStream (pos 1) (0xAA ∷ 0xBB ∷ [])))) ≡ Some (0x4F ∷ 0xAA ∷ 0xBB ∷ [])
overwritten_and_longer = refl

never_shorter : octets_of (after house (write (WriteStream (pos 0) (0xAA ∷ [])))) ≡ Some (0xAA ∷ 0x4B ∷ [])
never_shorter = refl

appended : octets_of (after house (write (WriteStream (negsuc 0) (0xAA ∷ 0xBB ∷ 0xCC ∷ [])))) ≡ Some (0x4F ∷ 0x4B ∷ 0xAA ∷ 0xBB ∷ 0xCC ∷ [])
appended = refl

no_file : reply_to house (WriteFile (id 0 5) (WriteStream (pos 0) (0xAA ∷ []))) ≡ Error 1 31
no_file = refl

reads_all : reply_to house (read (ReadStream (pos 0) 10)) ≡ Complex (FileRead true (pos 0) (0x4F ∷ 0x4B ∷ []))
reads_all = refl

reads_front : reply_to house (read (ReadStream (pos 0) 1)) ≡ Complex (FileRead false (pos 0) (0x4F ∷ []))
reads_front = refl

reads_to_the_end : reply_to house (read (ReadStream (pos 0) 2)) ≡ Complex (FileRead true (pos 0) (0x4F ∷ 0x4B ∷ []))
reads_to_the_end = refl

reads_at_the_end : reply_to house (read (ReadStream (pos 2) 1)) ≡ Complex (FileRead true (pos 2) [])
reads_at_the_end = refl

reads_after_the_end : reply_to house (read (ReadStream (pos 3) 1)) ≡ Error 5 11
reads_after_the_end = refl

reads_below : reply_to house (read (ReadStream (negsuc 0) 1)) ≡ Error 5 11
reads_below = refl

reads_records : reply_to house (read (ReadRecords (pos 0) 1)) ≡ Error 5 10
reads_records = refl

reads_no_file : reply_to house (ReadFile (id 2 1) (ReadStream (pos 0) 1)) ≡ Error 1 31
reads_no_file = refl

-- ---- kinds

kind_of_real : kind_of (real_of 0 0) ≡ Some 4
unfolding element_at tag_at tag_number_at form_at length_at contents_at class_at kind_at raw_at
kind_of_real = refl

kind_of_nothing : kind_of [] ≡ None
unfolding element_at tag_at tag_number_at form_at length_at contents_at class_at kind_at raw_at
kind_of_nothing = refl

kind_of_a_pair : kind_of (0x0E ∷ 0x0F ∷ []) ≡ None
unfolding element_at tag_at tag_number_at form_at length_at contents_at class_at kind_at raw_at
kind_of_a_pair = refl
