-- The requests of the four services and the service data of their ComplexACKs (clause 21), as plain values, and what others ask of them.
use Rattle.std.specs.Prelude.{ℕ, zero, suc, ℤ, pos, negsuc, Bool, true, false, List, [], ◌∷◌, codes, Option, Some, None, if◌then◌else◌}
use Rattle.bac_value.specs.Value.{ObjectId}
use Rattle.bac_service.specs.declared.service.Service.{Service}
use Rattle.bac_service.specs.declared.service.Service.TheVariants as service
use Rattle.bac_service.specs.Choices.{ATOMIC_READ_FILE, ATOMIC_WRITE_FILE, READ_PROPERTY, WRITE_PROPERTY, service_verb}

-- a property of an object, and optionally one element of it
pub record Reference : Type 0 where
  pub object : ObjectId
  pub property : ℕ
  pub index : Option ℕ

-- the part of a file to read: a count of octets from a position on, or of records from a record on
pub data ReadAccess : Type 0 where
  ReadStream : (start : ℤ) (count : ℕ) → ReadAccess
  ReadRecords : (start : ℤ) (count : ℕ) → ReadAccess

-- what is written to a file, and where; a run is octet strings, each spelled with its application tag, joined
pub data WriteAccess : Type 0 where
  WriteStream : (start : ℤ) (octets : List ℕ) → WriteAccess
  WriteRecords : (start : ℤ) (count : ℕ) (run : List ℕ) → WriteAccess

-- values are the octets of data
pub data Request : Type 0 where
  ReadFile : (file : ObjectId) (access : ReadAccess) → Request
  WriteFile : (file : ObjectId) (access : WriteAccess) → Request
  ReadProperty : (reference : Reference) → Request
  WriteProperty : (reference : Reference) (values : List ℕ) (priority : Option ℕ) → Request

-- the service data of a ComplexACK
pub data Complex : Type 0 where
  FileRead : (end_of_file : Bool) (start : ℤ) (octets : List ℕ) → Complex
  StreamWritten : (start : ℤ) → Complex
  RecordsWritten : (start : ℤ) → Complex
  PropertyRead : (reference : Reference) (values : List ℕ) → Complex

-- the octets for a file that a request contains, or its records with their tags
abbrev pub for_file : WriteAccess → List ℕ
for_file (WriteStream start octets) = octets
for_file (WriteRecords start count run) = run

-- the octets of data, for a file or of records that a request contains: what a copy allocates
abbrev pub held : Request → List ℕ
held (ReadFile file access) = []
held (WriteFile file access) = for_file access
held (ReadProperty reference) = []
held (WriteProperty reference values priority) = values

-- the octets of data or of a file that the service data of a ComplexACK contain
abbrev pub held_in : Complex → List ℕ
held_in (FileRead end_of_file start octets) = octets
held_in (StreamWritten start) = []
held_in (RecordsWritten start) = []
held_in (PropertyRead reference values) = values

abbrev pub choice_of : Request → ℕ
choice_of (ReadFile file access) = ATOMIC_READ_FILE
choice_of (WriteFile file access) = ATOMIC_WRITE_FILE
choice_of (ReadProperty reference) = READ_PROPERTY
choice_of (WriteProperty reference values priority) = WRITE_PROPERTY

abbrev pub complex_choice_of : Complex → ℕ
complex_choice_of (FileRead end_of_file start octets) = ATOMIC_READ_FILE
complex_choice_of (StreamWritten start) = ATOMIC_WRITE_FILE
complex_choice_of (RecordsWritten start) = ATOMIC_WRITE_FILE
complex_choice_of (PropertyRead reference values) = READ_PROPERTY

-- ---- what others ask of a request

abbrev pub service_asked : Request → Service
service_asked (ReadFile file access) = service.AtomicReadFile
service_asked (WriteFile file access) = service.AtomicWriteFile
service_asked (ReadProperty r) = service.ReadProperty
service_asked (WriteProperty r values priority) = service.WriteProperty

-- the object that the request is for; of the file services the file
abbrev pub object_asked : Request → ObjectId
object_asked (ReadFile file access) = file
object_asked (WriteFile file access) = file
object_asked (ReadProperty r) = r.object
object_asked (WriteProperty r values priority) = r.object

-- the property that the request is for; none where it is for a file
abbrev pub property_asked : Request → Option Reference
property_asked (ReadFile file access) = None
property_asked (WriteFile file access) = None
property_asked (ReadProperty r) = Some r
property_asked (WriteProperty r values priority) = Some r

abbrev pub read_start : ReadAccess → ℤ
read_start (ReadStream start count) = start
read_start (ReadRecords start count) = start

abbrev pub write_start : WriteAccess → ℤ
write_start (WriteStream start octets) = start
write_start (WriteRecords start count run) = start

-- the position, or the record, from which on a file is read or written
abbrev pub start_asked : Request → Option ℤ
start_asked (ReadFile file access) = Some (read_start access)
start_asked (WriteFile file access) = Some (write_start access)
start_asked (ReadProperty r) = None
start_asked (WriteProperty r values priority) = None

-- the priority of a write, where it has one
abbrev pub priority_asked : Request → Option ℕ
priority_asked (ReadFile file access) = None
priority_asked (WriteFile file access) = None
priority_asked (ReadProperty r) = None
priority_asked (WriteProperty r values priority) = priority

-- -1 is the end of a file (clause 14.2)
abbrev pub is_end : ℤ → Bool
is_end (pos n) = false
is_end (negsuc zero) = true
is_end (negsuc (suc n)) = false

abbrev pub appends_octets : WriteAccess → Bool
appends_octets (WriteStream start octets) = is_end start
appends_octets (WriteRecords start count run) = false

-- octets for the end of a file
abbrev pub is_append : Request → Bool
is_append (ReadFile file access) = false
is_append (WriteFile file access) = appends_octets access
is_append (ReadProperty r) = false
is_append (WriteProperty r values priority) = false

-- its first word, as `bac ask` takes it
abbrev pub verb_asked : Request → List ℕ
verb_asked r = if is_append r then codes "append" else service_verb (service_asked r)

-- ---- what others ask of the service data of a ComplexACK

abbrev pub service_answered : Complex → Service
service_answered (FileRead end_of_file start octets) = service.AtomicReadFile
service_answered (StreamWritten start) = service.AtomicWriteFile
service_answered (RecordsWritten start) = service.AtomicWriteFile
service_answered (PropertyRead r values) = service.ReadProperty

-- the property whose values they are
abbrev pub property_answered : Complex → Option Reference
property_answered (FileRead end_of_file start octets) = None
property_answered (StreamWritten start) = None
property_answered (RecordsWritten start) = None
property_answered (PropertyRead r values) = Some r

-- values of a property
abbrev pub values_answered : Complex → Option (List ℕ)
values_answered (FileRead end_of_file start octets) = None
values_answered (StreamWritten start) = None
values_answered (RecordsWritten start) = None
values_answered (PropertyRead r values) = Some values

-- octets of a file
abbrev pub content_answered : Complex → Option (List ℕ)
content_answered (FileRead end_of_file start octets) = Some octets
content_answered (StreamWritten start) = None
content_answered (RecordsWritten start) = None
content_answered (PropertyRead r values) = None

-- the octets of a file reach its end
abbrev pub reaches_end : Complex → Bool
reaches_end (FileRead end_of_file start octets) = end_of_file
reaches_end (StreamWritten start) = false
reaches_end (RecordsWritten start) = false
reaches_end (PropertyRead r values) = false

-- the position, or the record, from which on a file was read or written
abbrev pub start_answered : Complex → Option ℤ
start_answered (FileRead end_of_file start octets) = Some start
start_answered (StreamWritten start) = Some start
start_answered (RecordsWritten start) = Some start
start_answered (PropertyRead r values) = None

-- ---- their members by name, in the order in which they are printed

-- of records the run of octet strings, each spelled with its application tag
pub data Member : Type 0 where
  EndOfFile : (is_end : Bool) → Member
  Object : ObjectId → Member
  Property : (number : ℕ) → Member
  Index : Option ℕ → Member
  Position : ℤ → Member
  Record : ℤ → Member
  Count : ℕ → Member
  Content : (octets : List ℕ) → Member
  Records : (run : List ℕ) → Member
  Values : (octets : List ℕ) → Member
  Priority : Option ℕ → Member

abbrev pub request_name : Request → List ℕ
request_name (ReadFile file (ReadStream start count)) = codes "read-file"
request_name (ReadFile file (ReadRecords start count)) = codes "read-records"
request_name (WriteFile file (WriteStream start octets)) = codes "write-file"
request_name (WriteFile file (WriteRecords start count run)) = codes "write-records"
request_name (ReadProperty r) = codes "read-property"
request_name (WriteProperty r values priority) = codes "write-property"

abbrev pub members_asked : Request → List Member
members_asked (ReadFile file (ReadStream start count)) = Object file ∷ Position start ∷ Count count ∷ []
members_asked (ReadFile file (ReadRecords start count)) = Object file ∷ Record start ∷ Count count ∷ []
members_asked (WriteFile file (WriteStream start octets)) = Object file ∷ Position start ∷ Content octets ∷ []
members_asked (WriteFile file (WriteRecords start count run)) = Object file ∷ Record start ∷ Count count ∷ Records run ∷ []
members_asked (ReadProperty r) = Object r.object ∷ Property r.property ∷ Index r.index ∷ []
members_asked (WriteProperty r values priority) =
    Object r.object ∷ Property r.property ∷ Index r.index ∷ Values values ∷ Priority priority ∷ []

abbrev pub complex_name : Complex → List ℕ
complex_name (FileRead end_of_file start octets) = codes "read-file-ack"
complex_name (StreamWritten start) = codes "write-file-ack"
complex_name (RecordsWritten start) = codes "write-file-ack"
complex_name (PropertyRead r values) = codes "read-property-ack"

abbrev pub members_answered : Complex → List Member
members_answered (FileRead end_of_file start octets) = EndOfFile end_of_file ∷ Position start ∷ Content octets ∷ []
members_answered (StreamWritten start) = Position start ∷ []
members_answered (RecordsWritten start) = Record start ∷ []
members_answered (PropertyRead r values) = Object r.object ∷ Property r.property ∷ Index r.index ∷ Values values ∷ []
