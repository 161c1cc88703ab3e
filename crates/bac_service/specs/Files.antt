-- What both file services share: the file, a part of it, and octets at a position.
use Rattle.std.specs.Prelude.{ℕ, ℤ, ◌+◌, ◌^◌, ◌<◌, ◌++◌}
use Rattle.bac_value.specs.declared.tag.Class.TheVariants.{Application}
use Rattle.bac_value.specs.Number.{unsigned_octets, signed_octets, distance}
use Rattle.bac_value.specs.Value.{ObjectId}
use Rattle.bac_value.specs.Writing.{primitive, object_octets}
use Rattle.bac_service.specs.Values.{Request}
use Rattle.bac_service.specs.Members.{Octets, ◌⨾◌, Enclosed, ApplicationSigned, ApplicationUnsigned, ApplicationString, enclosed_spelling}
use Rattle.bac_service.specs.Reading.{Read, both_at, made_at, enclosed_at, application_object, application_signed, application_unsigned, application_string}
use Rattle.bac_service.specs.Lengths.{member_length, signed_length, unsigned_length, enclosed_length}

-- ---- the file and the access to it

abbrev pub file_at : {A : Type 0} → (ObjectId → A → Request) → (Octets → Read A) → Octets → Read Request
file_at make access = made_at (λ t. make t.0 t.1) (both_at application_object access)

abbrev pub file_spelling : ObjectId → Octets → Octets
file_spelling file access = primitive Application 12 (object_octets file) ++ access

-- the abstract value of the type in code
pub record IsFile (file : ObjectId) : Type 0 where
  pub kind_fits : file.kind < 1024
  pub instance_fits : file.instance < 2 ^ 22

-- ---- a part of a file: its start, and its number of octets or records

abbrev pub SpellsExtent : ℤ → ℕ → Octets → Type 0
SpellsExtent start count = ApplicationSigned start ⨾ ApplicationUnsigned count

abbrev pub extent_at : Octets → Read (ℤ × ℕ)
extent_at = both_at application_signed application_unsigned

abbrev pub extent_spelling : ℤ → ℕ → Octets
extent_spelling start count = primitive Application 3 (signed_octets start) ++ primitive Application 2 (unsigned_octets count)

abbrev pub extent_length : ℤ → ℕ → ℕ
extent_length start count = signed_length start + unsigned_length count

pub record IsExtent (start : ℤ) (count : ℕ) : Type 0 where
  pub start_fits : distance start < 2 ^ 63
  pub count_fits : count < 2 ^ 64

-- ---- octets at a position, between tags of number 0

abbrev pub SpellsContent : ℤ → Octets → Octets → Type 0
SpellsContent start octets = Enclosed 0 (ApplicationSigned start ⨾ ApplicationString octets)

abbrev pub content_at : Octets → Read (ℤ × Octets)
content_at = enclosed_at 0 (both_at application_signed application_string)

abbrev pub content_spelling : ℤ → Octets → Octets
content_spelling start octets = enclosed_spelling 0 (primitive Application 3 (signed_octets start) ++ primitive Application 6 octets)

abbrev pub content_length : ℤ → ℕ → ℕ
content_length start k = enclosed_length (signed_length start + member_length k)
