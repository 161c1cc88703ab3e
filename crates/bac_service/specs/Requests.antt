-- Whole requests: their spellings, readers and writers, and their abstract values.
use Rattle.std.specs.Prelude.{◌≡◌, ◌≢◌, ℕ, ◌<◌, List, length, Option, Some, None, Result, Err}
use Rattle.bac_value.specs.declared.data.Data.{Data}
use Rattle.bac_value.specs.declared.data.DataBuf.{DataBuf}
use Rattle.bac_value.specs.declared.value.OctetString.{OctetString}
use Rattle.bac_value.specs.Data.{IsData}
use Rattle.bac_service.specs.declared.service.Service.{Service}
use Rattle.bac_service.specs.declared.service.Service.TheVariants as service
use Rattle.bac_service.specs.declared.atomic_read_file.ReadFile as read_file
use Rattle.bac_service.specs.declared.atomic_write_file.WriteFile as write_file
use Rattle.bac_service.specs.declared.write_property.WriteProperty as write_property
use Rattle.bac_service.specs.declared.property.PropertyReference.{PropertyReference}
use Rattle.bac_service.specs.declared.file.Content.{Content}
use Rattle.bac_service.specs.declared.records.Records.{Records}
use Rattle.bac_service.specs.declared.owned_records.OwnedRecords.{OwnedRecords}
use Rattle.bac_service.specs.declared.request.AnyRequest as code
use Rattle.bac_service.specs.declared.request.AnyRequest.TheVariants as variant
use Rattle.bac_service.specs.Choices.{ATOMIC_READ_FILE, ATOMIC_WRITE_FILE, READ_PROPERTY, WRITE_PROPERTY, service_at}
use Rattle.bac_service.specs.Values.{Request, choice_of, held}
use Rattle.bac_service.specs.Values.Request.{ReadFile, WriteFile, ReadProperty, WriteProperty}
use Rattle.bac_service.specs.Members.{Octets}
use Rattle.bac_service.specs.Stops.{or_reason}
use Rattle.bac_service.specs.Reading.{Read, whole}
use Rattle.bac_service.specs.Sights.{Sight, lent, owned}
use Rattle.bac_service.specs.References.{SpellsReference, reference_spelling, reference_length, IsReference, property_reference_view}
use Rattle.bac_service.specs.AtomicReadFile.{SpellsReadFile, read_file_at, read_file_spelling, read_file_length, IsReadFile, read_file_view}
use Rattle.bac_service.specs.AtomicWriteFile.{SpellsWriteFile, write_file_at, write_file_spelling, write_file_length, IsWriteFile, IsWritten, write_file_view}
use Rattle.bac_service.specs.ReadProperty.{read_property_at}
use Rattle.bac_service.specs.WriteProperty.{SpellsWriteProperty, write_property_at, write_property_spelling, write_property_length, IsWriteProperty}
use Rattle.bac_service.specs.WriteProperty.{write_property_view}

-- ---- spellings

abbrev pub SpellsMembers : Request → Octets → Type 0
SpellsMembers (ReadFile file access) = SpellsReadFile file access
SpellsMembers (WriteFile file access) = SpellsWriteFile file access
SpellsMembers (ReadProperty r) = SpellsReference r
SpellsMembers (WriteProperty r values priority) = SpellsWriteProperty r values priority

-- the octets are the service data of this request, which has this choice
pub record SpellsRequest (choice : ℕ) (r : Request) (bytes : Octets) : Type 0 where
  pub choice_is : choice ≡ choice_of r
  pub members : SpellsMembers r bytes

-- the octets encode no request with this choice
abbrev pub IsNoRequest : ℕ → Octets → Type 0
IsNoRequest choice bytes = (r : Request) → SpellsRequest choice r bytes → ⊥

-- the octets encode a request with octets of its own, so that a copy allocates
pub record NeedsMemory (choice : ℕ) (bytes : Octets) : Type 0 where
  pub request : Request
  pub spelled : SpellsRequest choice request bytes
  pub holds : 0 < length (held request)

-- the choice of another service
pub record IsUnknown (choice : ℕ) : Type 0 where
  pub no_read_file : choice ≢ ATOMIC_READ_FILE
  pub no_write_file : choice ≢ ATOMIC_WRITE_FILE
  pub no_read_property : choice ≢ READ_PROPERTY
  pub no_write_property : choice ≢ WRITE_PROPERTY

-- ---- reading

-- the members of a service's request, from left to right
abbrev pub request_members : Service → Octets → Read Request
request_members service.AtomicReadFile = read_file_at
request_members service.AtomicWriteFile = write_file_at
request_members service.ReadProperty = read_property_at
request_members service.WriteProperty = write_property_at

-- unrecognized-service (clause 18.9)
abbrev pub UNRECOGNIZED_SERVICE : ℕ
UNRECOGNIZED_SERVICE = 9

abbrev pub request_of : Option Service → Octets → Result Request ℕ
request_of None bytes = Err UNRECOGNIZED_SERVICE
request_of (Some s) bytes = or_reason (whole (request_members s) bytes)

-- the request that the octets encode for a choice, or the number of the reason for rejecting them: the first fault from left to right
unfoldable pub request_at : ℕ → List ℕ → Result Request ℕ
request_at choice bytes = request_of (service_at choice) bytes

-- ---- writing

-- the one spelling of each request as a function: what writers append
abbrev pub request_spelling : Request → Octets
request_spelling (ReadFile file access) = read_file_spelling file access
request_spelling (WriteFile file access) = write_file_spelling file access
request_spelling (ReadProperty r) = reference_spelling r
request_spelling (WriteProperty r values priority) = write_property_spelling r values priority

-- the length of that spelling
abbrev pub request_length : Request → ℕ
request_length (ReadFile file access) = read_file_length access
request_length (WriteFile file access) = write_file_length access
request_length (ReadProperty r) = reference_length r
request_length (WriteProperty r values priority) = write_property_length r (length values) priority

-- ---- those in code

-- the abstract value of a request
abbrev pub IsRequest : Request → Type 0
IsRequest (ReadFile file access) = IsReadFile file access
IsRequest (WriteFile file access) = IsWriteFile file access
IsRequest (ReadProperty r) = IsReference r
IsRequest (WriteProperty r values priority) = IsWriteProperty r values priority

-- the strings and data of a request have this property
abbrev pub IsMade : Request → Type 0
IsMade (ReadFile file access) = Unit {0}
IsMade (WriteFile file access) = IsWritten access
IsMade (ReadProperty r) = Unit {0}
IsMade (WriteProperty r values priority) = ∥ IsData values ∥₁

-- a request, generic over types that hold data, the octets for a file, and records for a file
abbrev pub RequestOver : Type 0 → Type 0 → Type 0 → Type 0
RequestOver D C R = code.AnyRequest read_file.ReadFile (write_file.WriteFile C R) PropertyReference (write_property.WriteProperty D)

abbrev pub request_over_view : {D C R : Type 0} → Sight D C R → RequestOver D C R → Request
request_over_view s (variant.ReadFile r) = read_file_view r
request_over_view s (variant.WriteFile w) = write_file_view s w
request_over_view s (variant.ReadProperty r) = ReadProperty (property_reference_view r)
request_over_view s (variant.WriteProperty w) = write_property_view s.values w

-- a request that borrows its octets
abbrev pub request_view : RequestOver Data Content Records → Request
request_view r = request_over_view lent r

-- a request that owns its octets
abbrev pub owned_request_view : RequestOver DataBuf OctetString OwnedRecords → Request
owned_request_view r = request_over_view owned r
