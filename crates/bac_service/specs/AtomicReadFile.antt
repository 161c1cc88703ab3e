-- AtomicReadFile (clause 14.1): which part of a file is read, and what was read.
use Rattle.std.specs.Prelude.{ℕ, ℤ, ◌+◌, Bool, ◌^◌, ◌<◌, ◌++◌, List, length, Ok}
use Rattle.bac_value.specs.declared.tag.Class.TheVariants.{Application}
use Rattle.bac_value.specs.declared.tag.Form.TheVariants as form
use Rattle.bac_value.specs.Number.{distance}
use Rattle.bac_value.specs.Spelling.{tag_spelling}
use Rattle.bac_value.specs.Steps.{◌>>=◌}
use Rattle.bac_value.specs.Value.{ObjectId}
use Rattle.bac_value.specs.Views.{object_identifier_view}
use Rattle.bac_service.specs.declared.atomic_read_file.ReadAccess as code
use Rattle.bac_service.specs.declared.atomic_read_file.ReadAccess.TheVariants as access
use Rattle.bac_service.specs.declared.atomic_read_file.ReadFile as code_request
use Rattle.bac_service.specs.declared.atomic_read_file.FileRead as code_reply
use Rattle.bac_service.specs.Values.{ReadAccess, Request, Complex}
use Rattle.bac_service.specs.Values.ReadAccess.{ReadStream, ReadRecords}
use Rattle.bac_service.specs.Values.Request.{ReadFile}
use Rattle.bac_service.specs.Values.Complex.{FileRead}
use Rattle.bac_service.specs.Members.{Octets, ◌⨾◌, Enclosed, ApplicationObject, ApplicationBoolean, enclosed_spelling}
use Rattle.bac_service.specs.Reading.{Read, both_at, made_at, next_tag, expected, boolean_of, is_opened, either_at, enclosed_at}
use Rattle.bac_service.specs.Lengths.{OBJECT_LENGTH, enclosed_length}
use Rattle.bac_service.specs.Files.{file_at, file_spelling, IsFile, SpellsExtent, extent_at, extent_spelling, extent_length, IsExtent}
use Rattle.bac_service.specs.Files.{SpellsContent, content_at, content_spelling, content_length}

-- ---- requests

-- [0] for octets, [1] for records
abbrev pub SpellsReadAccess : ReadAccess → Octets → Type 0
SpellsReadAccess (ReadStream start count) = Enclosed 0 (SpellsExtent start count)
SpellsReadAccess (ReadRecords start count) = Enclosed 1 (SpellsExtent start count)

abbrev pub SpellsReadFile : ObjectId → ReadAccess → Octets → Type 0
SpellsReadFile file access = ApplicationObject file ⨾ SpellsReadAccess access

-- the second alternative if tag [1] comes next, otherwise the first
unfoldable pub read_access_at : Octets → Read ReadAccess
read_access_at = either_at (is_opened 1) (made_at (λ t. ReadRecords t.0 t.1) (enclosed_at 1 extent_at))
    (made_at (λ t. ReadStream t.0 t.1) (enclosed_at 0 extent_at))

abbrev pub read_file_at : Octets → Read Request
read_file_at = file_at ReadFile read_access_at

abbrev pub read_access_spelling : ReadAccess → Octets
read_access_spelling (ReadStream start count) = enclosed_spelling 0 (extent_spelling start count)
read_access_spelling (ReadRecords start count) = enclosed_spelling 1 (extent_spelling start count)

abbrev pub read_file_spelling : ObjectId → ReadAccess → Octets
read_file_spelling file access = file_spelling file (read_access_spelling access)

abbrev pub read_access_length : ReadAccess → ℕ
read_access_length (ReadStream start count) = enclosed_length (extent_length start count)
read_access_length (ReadRecords start count) = enclosed_length (extent_length start count)

abbrev pub read_file_length : ReadAccess → ℕ
read_file_length access = OBJECT_LENGTH + read_access_length access

-- the abstract value of the type in code
abbrev pub IsReadAccess : ReadAccess → Type 0
IsReadAccess (ReadStream start count) = IsExtent start count
IsReadAccess (ReadRecords start count) = IsExtent start count

abbrev pub IsReadFile : ObjectId → ReadAccess → Type 0
IsReadFile file access = IsFile file × IsReadAccess access

abbrev pub read_access_view : code.ReadAccess → ReadAccess
read_access_view (access.Stream start count) = ReadStream start count
read_access_view (access.Records start count) = ReadRecords start count

abbrev pub read_file_view : code_request.ReadFile → Request
read_file_view r = ReadFile (object_identifier_view r.file) (read_access_view r.access)

-- ---- service data of ComplexACKs

abbrev pub SpellsFileRead : Bool → ℤ → Octets → Octets → Type 0
SpellsFileRead end_of_file start octets = ApplicationBoolean end_of_file ⨾ SpellsContent start octets

unfoldable pub end_of_file_at : Octets → Read Bool
end_of_file_at bytes = do
  t ← next_tag bytes
  b ← expected bytes (boolean_of t.0.form)
  Ok (b, t.1)

unfoldable pub file_read_at : Octets → Read Complex
file_read_at = made_at (λ t. FileRead t.0 t.1.0 t.1.1) (both_at end_of_file_at content_at)

abbrev pub file_read_spelling : Bool → ℤ → Octets → Octets
file_read_spelling end_of_file start octets =
    tag_spelling (record { number = 1; class = Application; form = form.Boolean end_of_file }) ++ content_spelling start octets

abbrev pub file_read_length : ℤ → ℕ → ℕ
file_read_length start k = 1 + content_length start k

-- the abstract value of the type in code
abbrev pub IsFileRead : ℤ → Octets → Type 0
IsFileRead start octets = (distance start < 2 ^ 63) × (length octets < 2 ^ 32)

abbrev pub file_read_view : {C : Type 0} → (C → List ℕ) → code_reply.FileRead C → Complex
file_read_view content r = FileRead r.end_of_file r.start (content r.content)
