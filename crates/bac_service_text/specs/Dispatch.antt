-- The texts of requests and of the service data of ComplexACKs, service by service: each is defined in its service's file.
use Rattle.std.specs.Prelude.{◌≡◌, ℕ, Bool, ◌&&◌, List, [], ◌∷◌, codes, if◌then◌else◌, Option, Some, None, is_some}
use Rattle.std.specs.Str.{bytes_eq}
use Rattle.bac_service.specs.Choices.{is_read_service}
use Rattle.bac_service.specs.Values.{complex_name, members_answered, members_asked, request_name}
use Rattle.bac_service.specs.Values.{property_asked, service_asked, start_asked}
use Rattle.bac_service.specs.Values.{Complex, Reference, Request}
use Rattle.bac_service.specs.Values.Complex.{FileRead, StreamWritten, RecordsWritten, PropertyRead}
use Rattle.bac_service.specs.Values.Request.{ReadFile, WriteFile, ReadProperty, WriteProperty}
use Rattle.bac_value.specs.Value.{ObjectId}
use Rattle.bac_value_text.specs.DataTexts.{IsDataText}
use Rattle.bac_value_text.specs.Numbers.{◌>>=◌}
use Rattle.bac_value_text.specs.Reading.{object_of}
use Rattle.bac_service_text.specs.AtomicReadFile.{file_text, get_label, get_of, get_words}
use Rattle.bac_service_text.specs.AtomicWriteFile.{append_of, position_text, put_of, record_text, write_file_label, write_file_words}
use Rattle.bac_service_text.specs.ReadProperty.{read_of, read_words, values_text}
use Rattle.bac_service_text.specs.WriteProperty.{AreWriteWords, write_label, write_of}
use Rattle.bac_service_text.specs.Members.{IsNamed}
use Rattle.bac_service_text.specs.declared.bad_words.Wanted.{Wanted}
use Rattle.bac_service_text.specs.declared.bad_words.Wanted.TheVariants as wanted

-- ---- requests, printed

-- in words, as `bac ask` takes them, with values as `bac ask --text` prints them
abbrev pub AreRequestWords : Request → List ℕ → Type 0
AreRequestWords (ReadFile file access) words = words ≡ get_words file access
AreRequestWords (WriteFile file access) words = words ≡ write_file_words file access
AreRequestWords (ReadProperty r) words = words ≡ read_words r
AreRequestWords (WriteProperty r values priority) words = AreWriteWords r values priority words

-- in short, for the arrow of a chart: without values
abbrev pub request_label : Request → List ℕ
request_label (ReadFile file access) = get_label file
request_label (WriteFile file access) = write_file_label file access
request_label (ReadProperty r) = read_words r
request_label (WriteProperty r values priority) = write_label r

-- as a decoded line, without its end
abbrev pub IsRequestText : (in_words : Bool) → Request → List ℕ → Type 0
IsRequestText in_words r = IsNamed in_words (request_name r) (members_asked r)

-- ---- what requests ask for

-- the property that a request reads
abbrev pub property_read : Request → Option Reference
property_read r = if is_read_service (service_asked r) then property_asked r else None

-- a request reads a file
abbrev pub reads_file : Request → Bool
reads_file r = is_read_service (service_asked r) && is_some (start_asked r)

-- ---- requests, read: read T:I P, write T:I P VALUE .. [priority N], append T:I HEX, put T:I POSITION HEX, get T:I POSITION COUNT.
-- ---- T and P are numbers or names; P may have an index in brackets.

-- with one word after the object
unfoldable pub one_more : (verb : List ℕ) → ObjectId → (a : List ℕ) → Option Request
one_more verb object a =
    if bytes_eq verb (codes "read") then read_of object a
    else (if bytes_eq verb (codes "append") then append_of object a
    else None)

-- with two words after the object
unfoldable pub two_more : (verb : List ℕ) → ObjectId → (a b : List ℕ) → Option Request
two_more verb object a b =
    if bytes_eq verb (codes "put") then put_of object a b
    else (if bytes_eq verb (codes "get") then get_of object a b
    else None)

-- values follow the property
abbrev pub takes_values : (verb : List ℕ) → Bool
takes_values verb = bytes_eq verb (codes "write")

-- with two words or more after the object
unfoldable pub more_of : (verb : List ℕ) → ObjectId → (a b : List ℕ) → (words : List (List ℕ)) → Option Request
more_of verb object a b [] = if takes_values verb then write_of object a b [] else two_more verb object a b
more_of verb object a b (word ∷ words) = if takes_values verb then write_of object a b (word ∷ words) else None

-- the request that some words are
abbrev pub request_of : List (List ℕ) → Option Request
request_of (verb ∷ object ∷ a ∷ []) = object_of object >>= (λ o. one_more verb o a)
request_of (verb ∷ object ∷ a ∷ b ∷ words) = object_of object >>= (λ o. more_of verb o a b words)
request_of words = None

-- what the words after a verb have to be; values may follow these
abbrev pub roles_of : (verb : List ℕ) → Option (List Wanted)
roles_of verb =
    if bytes_eq verb (codes "read") then Some (wanted.Object ∷ wanted.Property ∷ [])
    else (if bytes_eq verb (codes "write") then Some (wanted.Object ∷ wanted.Property ∷ [])
    else (if bytes_eq verb (codes "append") then Some (wanted.Object ∷ wanted.Octets ∷ [])
    else (if bytes_eq verb (codes "put") then Some (wanted.Object ∷ wanted.Position ∷ wanted.Octets ∷ [])
    else (if bytes_eq verb (codes "get") then Some (wanted.Object ∷ wanted.Position ∷ wanted.Count ∷ [])
    else None))))

-- what is wrong with any other verb
abbrev pub no_verb : List ℕ
no_verb = codes "is not read, write, append, put or get"

-- ---- the service data of ComplexACKs, printed

-- in words: of a property its values, each by its kind
abbrev pub AreComplexWords : Complex → List ℕ → Type 0
AreComplexWords (FileRead end start octets) words = words ≡ file_text end start octets
AreComplexWords (StreamWritten start) words = words ≡ position_text start
AreComplexWords (RecordsWritten start) words = words ≡ record_text start
AreComplexWords (PropertyRead reference values) words = IsDataText values words

-- by numbers and octets
abbrev pub complex_text : Complex → List ℕ
complex_text (FileRead end start octets) = file_text end start octets
complex_text (StreamWritten start) = position_text start
complex_text (RecordsWritten start) = record_text start
complex_text (PropertyRead reference values) = values_text values

-- as a decoded line, without its end
abbrev pub IsComplexText : (in_words : Bool) → Complex → List ℕ → Type 0
IsComplexText in_words c = IsNamed in_words (complex_name c) (members_answered c)
