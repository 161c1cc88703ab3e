-- The list of the files of a backup: a line for each, with its digest, its length and its name in the folder.
use Rattle.std.specs.Prelude.{ℕ, ◌+◌, ◌-◌, ◌==◌, List, [], ◌∷◌, ◌++◌, codes, decimal, drop, length, map, take, if◌then◌else◌, Option, None, Some}
use Rattle.std.specs.Str.{bytes_eq}
use Rattle.hex.specs.Hex.{encode_lower}
use Rattle.bac_value.specs.Value.{ObjectId}
use Rattle.bac_value.specs.Views.{object_identifier_view}
use Rattle.bac_value_text.specs.Numbers.{◌>>=◌, array_of, number_of, parts_at}
use Rattle.bac_value_text.specs.Reading.{object_of}
use Rattle.bac_value_text.specs.Texts.{object_text}
use Rattle.bac_files.specs.declared.manifest.SavedFile.{SavedFile}
use Rattle.bac_files.specs.declared.manifest.Words as code

-- a hyphen in the place of a colon
abbrev pub name_octet : (octet : ℕ) → ℕ
name_octet octet = if octet == 58 then 45 else octet

-- the name of the file that has the octets of an object: `file-1.bin`
abbrev pub name_of : ObjectId → List ℕ
name_of object = map name_octet (object_text object) ++ codes ".bin"

-- the line of a file, without its end: the digest in hexadecimal, the number of octets, and the name
abbrev pub line_of : SavedFile → List ℕ
line_of f = encode_lower f.digest ++ (codes " " ++ (decimal f.length ++ (codes " " ++ name_of (object_identifier_view f.object))))

-- ---- reading such a line

-- what a line says of a file
pub record Saved : Type 0 where
  pub object : ObjectId
  pub length : ℕ
  pub digest : List ℕ

abbrev pub saved_view : SavedFile → Saved
saved_view f = record { object = object_identifier_view f.object; length = f.length; digest = f.digest }

-- a name without `.bin` at its end
abbrev pub stem_of : (name : List ℕ) → Option (List ℕ)
stem_of name = if bytes_eq (drop (length name - 4) name) (codes ".bin") then Some (take (length name - 4) name) else None

-- the place of the last hyphen of a text that begins at a place, or of the one before it, if there is none
abbrev pub last_from : (place : ℕ) → (before : Option ℕ) → List ℕ → Option ℕ
last_from place before [] = before
last_from place before (octet ∷ text) = last_from (place + 1) (if octet == 45 then Some place else before) text

abbrev pub last_hyphen : List ℕ → Option ℕ
last_hyphen text = last_from 0 None text

-- a text with a colon at that place
abbrev pub with_colon : List ℕ → (place : ℕ) → List ℕ
with_colon text place = take place text ++ 58 ∷ drop (place + 1) text

-- the object with that text but for the colon
abbrev pub object_at : (stem : List ℕ) → (place : ℕ) → Option ObjectId
object_at stem place = object_of (with_colon stem place)

abbrev pub object_in_stem : (stem : List ℕ) → Option ObjectId
object_in_stem stem = last_hyphen stem >>= object_at stem

-- the object whose octets the file of that name has
abbrev pub object_named : (name : List ℕ) → Option ObjectId
object_named name = stem_of name >>= object_in_stem

pub record Words : Type 0 where
  pub digest : List ℕ
  pub length : List ℕ
  pub name : List ℕ

abbrev pub words_view : code.Words → Words
words_view w = record { digest = w.digest.now; length = w.length.now; name = w.name.now }

-- the words of a line: what stands before the first space, before the next, and behind that
unfoldable pub words_in : (line : List ℕ) → Option Words
words_in line = do
  first ← parts_at 32 line
  second ← parts_at 32 first.1
  Some (record { digest = first.0; length = second.0; name = second.1 })

-- the file that those words say
unfoldable pub file_in : Words → Option Saved
file_in w = do
  digest ← array_of 32 w.digest
  length ← number_of w.length
  object ← object_named w.name
  Some (record { object = object; length = length; digest = digest })

-- the file that a line is of
abbrev pub file_of : (line : List ℕ) → Option Saved
file_of line = words_in line >>= file_in
