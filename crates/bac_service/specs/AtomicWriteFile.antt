-- AtomicWriteFile (clause 14.2): what is written to a file, and where it was written.
use Rattle.std.specs.Prelude.{◌≡◌, ℕ, ℤ, ◌+◌, Bool, ◌==◌, ◌^◌, ◌<◌, ◌++◌, length}
use Rattle.bac_value.specs.declared.tag.Class.TheVariants.{Context}
use Rattle.bac_value.specs.Number.{signed_octets, distance}
use Rattle.bac_value.specs.Reading.{signed_at}
use Rattle.bac_value.specs.Value.{ObjectId, IsInteger}
use Rattle.bac_value.specs.Views.{object_identifier_view}
use Rattle.bac_value.specs.Writing.{primitive}
use Rattle.bac_service.specs.declared.atomic_write_file.WriteAccess as code
use Rattle.bac_service.specs.declared.atomic_write_file.WriteAccess.TheVariants as access
use Rattle.bac_service.specs.declared.atomic_write_file.WriteFile as code_request
use Rattle.bac_service.specs.declared.atomic_write_file.FileWritten as code_reply
use Rattle.bac_service.specs.declared.atomic_write_file.FileWritten.TheVariants as place
use Rattle.bac_service.specs.declared.stop.Why.TheVariants.{Inconsistent}
use Rattle.bac_service.specs.Values.{WriteAccess, Request, Complex}
use Rattle.bac_service.specs.Values.WriteAccess.{WriteStream, WriteRecords}
use Rattle.bac_service.specs.Values.Request.{WriteFile}
use Rattle.bac_service.specs.Values.Complex.{StreamWritten, RecordsWritten}
use Rattle.bac_service.specs.Members.{Octets, ◌⨾◌, Enclosed, Tagged, ApplicationObject, ApplicationSigned, ApplicationUnsigned, enclosed_spelling}
use Rattle.bac_service.specs.Reading.{Read, both_at, made_at, member_at, is_next, is_opened, either_at, enclosed_at, that_at}
use Rattle.bac_service.specs.Reading.{application_signed, application_unsigned}
use Rattle.bac_service.specs.Lengths.{OBJECT_LENGTH, enclosed_length}
use Rattle.bac_service.specs.Runs.{AreStrings, run_at}
use Rattle.bac_service.specs.Files.{file_at, file_spelling, IsFile, extent_spelling, extent_length, IsExtent}
use Rattle.bac_service.specs.Files.{SpellsContent, content_at, content_spelling, content_length}
use Rattle.bac_service.specs.Sights.{Sight}

-- ---- requests

-- as many octet strings as the count in front of them (own rule of this profile)
pub record AreRecords (count : ℕ) (run bytes : Octets) : Type 0 where
  pub strings : AreStrings count run
  pub is : bytes ≡ run

-- [0] for octets, [1] for records
abbrev pub SpellsWriteAccess : WriteAccess → Octets → Type 0
SpellsWriteAccess (WriteStream start octets) = SpellsContent start octets
SpellsWriteAccess (WriteRecords start count run) = Enclosed 1 (ApplicationSigned start ⨾ (ApplicationUnsigned count ⨾ AreRecords count run))

abbrev pub SpellsWriteFile : ObjectId → WriteAccess → Octets → Type 0
SpellsWriteFile file access = ApplicationObject file ⨾ SpellsWriteAccess access

-- a count, and that many strings after it
unfoldable pub counted_at : Octets → Read (ℤ × (ℕ × (ℕ × Octets)))
counted_at = both_at application_signed (both_at application_unsigned run_at)

abbrev pub are_counted : ℤ × (ℕ × (ℕ × Octets)) → Bool
are_counted t = t.1.0 == t.1.1.0

-- the second alternative if tag [1] comes next, otherwise the first
unfoldable pub write_access_at : Octets → Read WriteAccess
write_access_at =
    either_at (is_opened 1) (made_at (λ t. WriteRecords t.0 t.1.0 t.1.1.1) (that_at Inconsistent are_counted (enclosed_at 1 counted_at)))
    (made_at (λ t. WriteStream t.0 t.1) content_at)

abbrev pub write_file_at : Octets → Read Request
write_file_at = file_at WriteFile write_access_at

abbrev pub records_spelling : ℤ → ℕ → Octets → Octets
records_spelling start count run = enclosed_spelling 1 (extent_spelling start count ++ run)

abbrev pub write_access_spelling : WriteAccess → Octets
write_access_spelling (WriteStream start octets) = content_spelling start octets
write_access_spelling (WriteRecords start count run) = records_spelling start count run

abbrev pub write_file_spelling : ObjectId → WriteAccess → Octets
write_file_spelling file access = file_spelling file (write_access_spelling access)

abbrev pub write_access_length : WriteAccess → ℕ
write_access_length (WriteStream start octets) = content_length start (length octets)
write_access_length (WriteRecords start count run) = enclosed_length (extent_length start count + length run)

abbrev pub write_file_length : WriteAccess → ℕ
write_file_length access = OBJECT_LENGTH + write_access_length access

-- the abstract value of the type in code
abbrev pub IsWriteAccess : WriteAccess → Type 0
IsWriteAccess (WriteStream start octets) = (distance start < 2 ^ 63) × (length octets < 2 ^ 32)
IsWriteAccess (WriteRecords start count run) = IsExtent start count × AreStrings count run

abbrev pub IsWriteFile : ObjectId → WriteAccess → Type 0
IsWriteFile file access = IsFile file × IsWriteAccess access

-- all octets for a file and all records of a value have this property
abbrev pub IsWritten : WriteAccess → Type 0
IsWritten (WriteStream start octets) = length octets < 2 ^ 32
IsWritten (WriteRecords start count run) = ∥ AreStrings count run ∥₁

abbrev pub write_access_view : {D C R : Type 0} → Sight D C R → code.WriteAccess C R → WriteAccess
write_access_view s (access.Stream w) = WriteStream w.start (s.content w.content)
write_access_view s (access.Records w) = WriteRecords w.start (s.count w.records) (s.run w.records)

abbrev pub write_file_view : {D C R : Type 0} → Sight D C R → code_request.WriteFile C R → Request
write_file_view s w = WriteFile (object_identifier_view w.file) (write_access_view s w.access)

-- ---- service data of ComplexACKs

-- [0] for octets, [1] for records
abbrev pub SpellsPosition : ℕ → ℤ → Octets → Type 0
SpellsPosition number start = Tagged Context number (IsInteger 8 start)

-- the second alternative if tag [1] comes next, otherwise the first
unfoldable pub file_written_at : Octets → Read Complex
file_written_at = either_at (is_next 1) (made_at RecordsWritten (member_at Context 1 signed_at)) (made_at StreamWritten (member_at Context 0 signed_at))

abbrev pub position_spelling : ℕ → ℤ → Octets
position_spelling number start = primitive Context number (signed_octets start)

abbrev pub file_written_view : code_reply.FileWritten → Complex
file_written_view (place.Stream start) = StreamWritten start
file_written_view (place.Records start) = RecordsWritten start
