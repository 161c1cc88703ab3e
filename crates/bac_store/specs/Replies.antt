-- The reply of a store to a request: clauses 14.1, 14.2, 15.5 and 15.9, and this profile's table of errors.
use Rattle.std.specs.Prelude.{ℕ, zero, suc, ◌+◌, ℤ, pos, negsuc, Bool, true, false, not, ◌==◌, ◌||◌, nat_lt, nat_le, List, [], ◌∷◌, ◌++◌}
use Rattle.std.specs.Prelude.{length, take, drop, Option}
use Rattle.std.specs.Prelude.{Some, None, is_some, if◌then◌else◌}
use Rattle.bac_value.specs.Value.{ObjectId}
use Rattle.bac_service.specs.Values.{Reference, ReadAccess, WriteAccess, Request}
use Rattle.bac_service.specs.Replies.{Reply}
use Rattle.bac_service.specs.Values.ReadAccess.{ReadStream, ReadRecords}
use Rattle.bac_service.specs.Values.WriteAccess.{WriteStream, WriteRecords}
use Rattle.bac_service.specs.Values.Request.{ReadFile, WriteFile, ReadProperty, WriteProperty}
use Rattle.bac_service.specs.Values.Complex.{FileRead, StreamWritten, PropertyRead}
use Rattle.bac_service.specs.Replies.Reply.{Simple, Complex, Error}
use Rattle.bac_store.specs.Limits.{PRESENT_VALUE, VALUE_LIMIT, FILE_LIMIT}
use Rattle.bac_store.specs.Allowing.{is_allowed}
use Rattle.bac_store.specs.Kinds.{is_state_of, is_tag, kind_of}
use Rattle.bac_store.specs.Arrays.{element_of, elements_of}
use Rattle.bac_store.specs.Stores.{Store, Object, Property, File, object_in, property_in}
use Rattle.bac_store.specs.Targets.{read_in}

-- ---- class and code of each Error (clause 18)

abbrev pub UNKNOWN_OBJECT : Reply
UNKNOWN_OBJECT = Error 1 31

abbrev pub UNKNOWN_PROPERTY : Reply
UNKNOWN_PROPERTY = Error 2 32

abbrev pub PROPERTY_IS_NOT_AN_ARRAY : Reply
PROPERTY_IS_NOT_AN_ARRAY = Error 2 50

abbrev pub INVALID_ARRAY_INDEX : Reply
INVALID_ARRAY_INDEX = Error 2 42

abbrev pub WRITE_ACCESS_DENIED : Reply
WRITE_ACCESS_DENIED = Error 2 40

abbrev pub INVALID_DATA_TYPE : Reply
INVALID_DATA_TYPE = Error 2 9

abbrev pub VALUE_OUT_OF_RANGE : Reply
VALUE_OUT_OF_RANGE = Error 2 37

abbrev pub NO_SPACE_TO_WRITE : Reply
NO_SPACE_TO_WRITE = Error 3 20

abbrev pub INVALID_FILE_ACCESS_METHOD : Reply
INVALID_FILE_ACCESS_METHOD = Error 5 10

abbrev pub FILE_ACCESS_DENIED : Reply
FILE_ACCESS_DENIED = Error 5 5

abbrev pub INVALID_FILE_START_POSITION : Reply
INVALID_FILE_START_POSITION = Error 5 11

-- a case of a table, and its reply
infixr 12 ◌⟶◌
abbrev pub ◌⟶◌ : Bool → Reply → Bool × Reply
case ⟶ answer = (case, answer)

-- the reply of the first case that applies, otherwise the last one
abbrev pub first_case : List (Bool × Reply) → Reply → Reply
first_case [] otherwise = otherwise
first_case (c ∷ cs) otherwise = if c.0 then c.1 else first_case cs otherwise

-- ---- properties

abbrev pub at_property : Option Property → (Property → Reply) → Reply
at_property None answer = UNKNOWN_PROPERTY
at_property (Some p) answer = answer p

abbrev pub at_object : Option Object → (Object → Reply) → Reply
at_object None answer = UNKNOWN_OBJECT
at_object (Some o) answer = answer o

-- the reply if there is no such object or no such property
abbrev pub of_property : Option Object → Reference → (Property → Reply) → Reply
of_property found r answer = at_object found (λ o. at_property (property_in o r.property) answer)

abbrev pub element_reply : Reference → Option (List ℕ) → Reply
element_reply r None = INVALID_ARRAY_INDEX
element_reply r (Some values) = Complex (PropertyRead r values)

abbrev pub array_reply : Reference → ℕ → Option (List (List ℕ)) → Reply
array_reply r index None = PROPERTY_IS_NOT_AN_ARRAY
array_reply r index (Some es) = element_reply r (element_of es index)

-- all values, or by an index one element of an array
abbrev pub indexed_reply : Reference → Property → Option ℕ → Reply
indexed_reply r p None = Complex (PropertyRead r p.values)
indexed_reply r p (Some index) = array_reply r index (elements_of p)

abbrev pub read_reply : Reference → Property → Reply
read_reply r p = indexed_reply r p r.index

-- the values are of the property's kind
abbrev pub is_of_kind : Option ℕ → List ℕ → Bool
is_of_kind None values = true
is_of_kind (Some k) values = is_tag k (kind_of values)

-- a state of the object, if the property is its present-value
unfoldable pub is_right_state : Reference → List ℕ → Bool
is_right_state r values = if r.property == PRESENT_VALUE then is_state_of r.object.kind values else true

-- the present-value of a binary or a multi-state object has states, and a property may have limits
abbrev pub is_out_of_range : Reference → List ℕ → Property → Bool
is_out_of_range r values p = not (is_right_state r values) || not (is_allowed p.allowed values)

abbrev pub write_reply : Reference → List ℕ → Property → Reply
write_reply r values p =
    first_case
    ((is_some r.index ⟶ PROPERTY_IS_NOT_AN_ARRAY)
    ∷ (not p.writable ⟶ WRITE_ACCESS_DENIED)
    ∷ (not (is_of_kind p.kind values) ⟶ INVALID_DATA_TYPE)
    ∷ (is_out_of_range r values p ⟶ VALUE_OUT_OF_RANGE)
    ∷ (nat_lt VALUE_LIMIT (length values) ⟶ NO_SPACE_TO_WRITE)
    ∷ [])
    Simple

-- ---- files

abbrev pub file_of : Option Object → Option File
file_of None = None
file_of (Some o) = o.file

abbrev pub at_file : Option File → (File → Reply) → Reply
at_file None answer = UNKNOWN_OBJECT
at_file (Some f) answer = answer f

-- the reply if there is no such object, or it is not a file
abbrev pub of_file : Store → ObjectId → (File → Reply) → Reply
of_file s id answer = at_file (file_of (object_in s id)) answer

-- a start position of a read: none below 0, none after the end
abbrev pub is_no_read_start : ℤ → List ℕ → Bool
is_no_read_start (pos n) octets = nat_lt (length octets) n
is_no_read_start (negsuc n) octets = true

-- the octet at which a read starts
abbrev pub read_start : ℤ → ℕ
read_start (pos n) = n
read_start (negsuc n) = 0

-- this many octets from a position on, or as many as are left
abbrev pub octets_from : ℕ → ℕ → List ℕ → List ℕ
octets_from start count octets = take count (drop start octets)

abbrev pub reaches_end : ℕ → ℕ → List ℕ → Bool
reaches_end start count octets = nat_le (length octets) (start + count)

abbrev pub file_read : ℕ → ℕ → List ℕ → Reply
file_read start count octets = Complex (FileRead (reaches_end start count octets) (pos start) (octets_from start count octets))

abbrev pub read_file_reply : ReadAccess → File → Reply
read_file_reply (ReadRecords start count) f = INVALID_FILE_ACCESS_METHOD
read_file_reply (ReadStream start count) f =
    first_case ((is_no_read_start start f.octets ⟶ INVALID_FILE_START_POSITION) ∷ []) (file_read (read_start start) count f.octets)

-- a start position of a write: -1 is the end; none below -1, none after the end
abbrev pub is_no_write_start : ℤ → List ℕ → Bool
is_no_write_start (pos n) octets = nat_lt (length octets) n
is_no_write_start (negsuc zero) octets = false
is_no_write_start (negsuc (suc n)) octets = true

-- the octet at which a write starts
abbrev pub write_start : ℤ → List ℕ → ℕ
write_start (pos n) octets = n
write_start (negsuc n) octets = length octets

-- the octets before the start, the new ones, and the old ones after those
abbrev pub overwritten : ℕ → List ℕ → List ℕ → List ℕ
overwritten start new octets = take start octets ++ (new ++ drop (start + length new) octets)

abbrev pub written : ℤ → List ℕ → List ℕ → List ℕ
written start new octets = overwritten (write_start start octets) new octets

abbrev pub write_stream_reply : ℤ → List ℕ → File → Reply
write_stream_reply start new f =
    first_case
    ((not f.writable ⟶ FILE_ACCESS_DENIED)
    ∷ (is_no_write_start start f.octets ⟶ INVALID_FILE_START_POSITION)
    ∷ (nat_lt FILE_LIMIT (length (written start new f.octets)) ⟶ NO_SPACE_TO_WRITE)
    ∷ [])
    (Complex (StreamWritten (pos (write_start start f.octets))))

abbrev pub write_file_reply : WriteAccess → File → Reply
write_file_reply (WriteRecords start count run) f = INVALID_FILE_ACCESS_METHOD
write_file_reply (WriteStream start new) f = write_stream_reply start new f

-- ---- the reply to each request

abbrev pub reply_to : Store → Request → Reply
reply_to s (ReadFile id access) = of_file s id (read_file_reply access)
reply_to s (WriteFile id access) = of_file s id (write_file_reply access)
reply_to s (ReadProperty r) = of_property (read_in s r.object) r (read_reply r)
reply_to s (WriteProperty r values priority) = of_property (object_in s r.object) r (write_reply r values)
