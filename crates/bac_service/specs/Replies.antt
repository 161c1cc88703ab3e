-- Replies as plain values, and the service data of whole ComplexACKs: their spellings, readers and writers.
use Rattle.std.specs.Prelude.{◌≡◌, ℕ, ◌^◌, ◌<◌, List, [], length, Bool, true, false, Option, Some, None, Result, Ok, Err}
use Rattle.bac_value.specs.declared.data.Data.{Data}
use Rattle.bac_value.specs.declared.data.DataBuf.{DataBuf}
use Rattle.bac_value.specs.declared.fault.Fault.{Fault}
use Rattle.bac_value.specs.declared.value.OctetString.{OctetString}
use Rattle.bac_value.specs.Number.{distance}
use Rattle.bac_value.specs.Data.{IsData}
use Rattle.bac_service.specs.declared.service.Service.{Service}
use Rattle.bac_service.specs.declared.service.Service.TheVariants as service
use Rattle.bac_service.specs.declared.stop.Why.TheVariants.{Unexpected}
use Rattle.bac_service.specs.declared.file.Content.{Content}
use Rattle.bac_service.specs.declared.atomic_read_file.FileRead as file_read
use Rattle.bac_service.specs.declared.atomic_write_file.FileWritten as file_written
use Rattle.bac_service.specs.declared.read_property.PropertyRead as property_read
use Rattle.bac_service.specs.declared.reply.AnyComplex as code_complex
use Rattle.bac_service.specs.declared.reply.AnyComplex.TheVariants as kind
use Rattle.bac_service.specs.declared.reply.AnyReply as code_reply
use Rattle.bac_service.specs.declared.reply.AnyReply.TheVariants as way
use Rattle.bac_service.specs.Choices.{service_at}
use Rattle.bac_service.specs.Values as plain
use Rattle.bac_service.specs.Values.{complex_choice_of, held_in}
use Rattle.bac_service.specs.Values.Complex.{FileRead, StreamWritten, RecordsWritten, PropertyRead}
use Rattle.bac_service.specs.Members.{Octets}
use Rattle.bac_service.specs.Stops.{stop, or_fault}
use Rattle.bac_service.specs.Reading.{Read, whole}
use Rattle.bac_service.specs.Lengths.{signed_length}
use Rattle.bac_service.specs.AtomicReadFile.{SpellsFileRead, file_read_at, file_read_spelling, file_read_length, IsFileRead, file_read_view}
use Rattle.bac_service.specs.AtomicWriteFile.{SpellsPosition, file_written_at, position_spelling, file_written_view}
use Rattle.bac_service.specs.ReadProperty.{SpellsPropertyRead, property_read_at, property_read_spelling, property_read_length, IsPropertyRead}
use Rattle.bac_service.specs.ReadProperty.{property_read_view}

-- the reply of a server to a request: a SimpleACK, a ComplexACK, an Error or a Reject (clause 5.4)
pub data Reply : Type 0 where
  Simple : Reply
  Complex : plain.Complex → Reply
  Error : (class code : ℕ) → Reply
  Reject : (reason : ℕ) → Reply

-- the octets of data or of a file that a reply contains
abbrev pub held_by : Reply → List ℕ
held_by Simple = []
held_by (Complex c) = held_in c
held_by (Error class code) = []
held_by (Reject reason) = []

-- ---- spellings of service data

abbrev pub SpellsComplexMembers : plain.Complex → Octets → Type 0
SpellsComplexMembers (FileRead end_of_file start octets) = SpellsFileRead end_of_file start octets
SpellsComplexMembers (StreamWritten start) = SpellsPosition 0 start
SpellsComplexMembers (RecordsWritten start) = SpellsPosition 1 start
SpellsComplexMembers (PropertyRead r values) = SpellsPropertyRead r values

-- the octets encode these service data of a ComplexACK with this choice
pub record SpellsComplex (choice : ℕ) (c : plain.Complex) (bytes : Octets) : Type 0 where
  pub choice_is : choice ≡ complex_choice_of c
  pub members : SpellsComplexMembers c bytes

-- the octets encode no service data of a ComplexACK with this choice
abbrev pub IsNoComplex : ℕ → Octets → Type 0
IsNoComplex choice bytes = (c : plain.Complex) → SpellsComplex choice c bytes → ⊥

-- the octets encode service data with octets of their own, so that a copy allocates
pub record ReplyNeedsMemory (choice : ℕ) (bytes : Octets) : Type 0 where
  pub complex : plain.Complex
  pub spelled : SpellsComplex choice complex bytes
  pub holds : 0 < length (held_in complex)

-- the octets encode the service data of some ComplexACK with this choice
pub record IsReply (choice : ℕ) (bytes : Octets) : Type 0 where
  pub complex : plain.Complex
  pub spelled : SpellsComplex choice complex bytes

-- ---- reading

-- the members of the service data of a service's ComplexACK; a service without one stops at the first octet
abbrev pub complex_members : Option Service → Octets → Read plain.Complex
complex_members (Some service.AtomicReadFile) bytes = file_read_at bytes
complex_members (Some service.AtomicWriteFile) bytes = file_written_at bytes
complex_members (Some service.ReadProperty) bytes = property_read_at bytes
complex_members (Some service.WriteProperty) bytes = stop Unexpected bytes
complex_members None bytes = stop Unexpected bytes

-- the service data of a ComplexACK that the octets encode for a choice, or the first fault from left to right, and its place
unfoldable pub complex_at : ℕ → List ℕ → Result plain.Complex Fault
complex_at choice bytes = or_fault (length bytes) (whole (complex_members (service_at choice)) bytes)

abbrev pub is_read : {A E : Type 0} → Result A E → Bool
is_read (Ok x) = true
is_read (Err e) = false

-- whether the octets encode service data of a ComplexACK with a choice
abbrev pub reads_reply : ℕ → List ℕ → Bool
reads_reply choice bytes = is_read (complex_at choice bytes)

-- ---- writing

-- the one spelling of the service data of each ComplexACK as a function: what writers append
abbrev pub complex_spelling : plain.Complex → Octets
complex_spelling (FileRead end_of_file start octets) = file_read_spelling end_of_file start octets
complex_spelling (StreamWritten start) = position_spelling 0 start
complex_spelling (RecordsWritten start) = position_spelling 1 start
complex_spelling (PropertyRead r values) = property_read_spelling r values

-- the length of that spelling
abbrev pub complex_length : plain.Complex → ℕ
complex_length (FileRead end_of_file start octets) = file_read_length start (length octets)
complex_length (StreamWritten start) = signed_length start
complex_length (RecordsWritten start) = signed_length start
complex_length (PropertyRead r values) = property_read_length r (length values)

-- ---- those in code

-- the abstract value of the service data of a ComplexACK
abbrev pub IsComplex : plain.Complex → Type 0
IsComplex (FileRead end_of_file start octets) = IsFileRead start octets
IsComplex (StreamWritten start) = distance start < 2 ^ 63
IsComplex (RecordsWritten start) = distance start < 2 ^ 63
IsComplex (PropertyRead r values) = IsPropertyRead r values

-- the content and the data of a ComplexACK have this property
abbrev pub IsMadeOf : plain.Complex → Type 0
IsMadeOf (FileRead end_of_file start octets) = length octets < 2 ^ 32
IsMadeOf (StreamWritten start) = Unit {0}
IsMadeOf (RecordsWritten start) = Unit {0}
IsMadeOf (PropertyRead r values) = ∥ IsData values ∥₁

-- service data, generic over types that hold data and the octets of a file
abbrev pub ComplexOver : Type 0 → Type 0 → Type 0
ComplexOver D C = code_complex.AnyComplex (file_read.FileRead C) file_written.FileWritten (property_read.PropertyRead D)

abbrev pub complex_over_view : {D C : Type 0} → (D → List ℕ) → (C → List ℕ) → ComplexOver D C → plain.Complex
complex_over_view values content (kind.FileRead r) = file_read_view content r
complex_over_view values content (kind.FileWritten w) = file_written_view w
complex_over_view values content (kind.PropertyRead r) = property_read_view values r

-- service data that borrow their octets
abbrev pub complex_view : ComplexOver Data Content → plain.Complex
complex_view c = complex_over_view (λ d. d.octets.now) (λ c. c.octets.now) c

-- service data that own their octets
abbrev pub owned_complex_view : ComplexOver DataBuf OctetString → plain.Complex
owned_complex_view c = complex_over_view (λ d. d.octets.items) (λ c. c.octets.items) c

abbrev pub reply_over_view : {C : Type 0} → (C → plain.Complex) → code_reply.AnyReply C → Reply
reply_over_view view way.Simple = Simple
reply_over_view view (way.Complex c) = Complex (view c)
reply_over_view view (way.Error class code) = Error class code
reply_over_view view (way.Reject reason) = Reject reason

-- a reply that borrows its octets
abbrev pub reply_view : code_reply.AnyReply (ComplexOver Data Content) → Reply
reply_view r = reply_over_view complex_view r

-- a reply that owns its octets
abbrev pub owned_reply_view : code_reply.AnyReply (ComplexOver DataBuf OctetString) → Reply
owned_reply_view r = reply_over_view owned_complex_view r
