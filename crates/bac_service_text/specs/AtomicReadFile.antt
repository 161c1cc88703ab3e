-- AtomicReadFile as text (clause 14.1).
use Rattle.std.specs.Prelude.{ℕ, ℤ, Bool, List, ◌++◌, codes, decimal, Option, Some}
use Rattle.std.specs.Fmt.{signed_decimal}
use Rattle.hex.specs.Hex.{encode_upper}
use Rattle.bac_service.specs.Values.{ReadAccess, Request}
use Rattle.bac_service.specs.Values.ReadAccess.{ReadStream, ReadRecords}
use Rattle.bac_service.specs.Values.Request.{ReadFile}
use Rattle.bac_value.specs.Value.{ObjectId}
use Rattle.bac_value_text.specs.Numbers.{◌>>=◌, number_of, signed_of}
use Rattle.bac_value_text.specs.Texts.{object_text}
use Rattle.bac_service_text.specs.Members.{bit_text}

-- ---- the request

-- without its position and count
abbrev pub get_label : ObjectId → List ℕ
get_label file = codes "get " ++ object_text file

-- octets from a position on, or records
abbrev pub get_words : ObjectId → ReadAccess → List ℕ
get_words file (ReadStream start count) =
    get_label file ++ (codes " " ++ (signed_decimal start ++ (codes " " ++ decimal count)))
get_words file (ReadRecords start count) =
    get_label file ++ (codes " record " ++ (signed_decimal start ++ (codes " count " ++ decimal count)))

-- the request that `get OBJECT POSITION COUNT` means
unfoldable pub get_of : ObjectId → (start count : List ℕ) → Option Request
get_of file start count = do
  position ← signed_of start
  number ← number_of count
  Some (ReadFile file (ReadStream position number))

-- ---- the reply

-- whether the octets reach the end of the file, their position, and they
abbrev pub file_text : Bool → ℤ → List ℕ → List ℕ
file_text end start octets = codes "file " ++ (bit_text end ++ (codes " " ++ (signed_decimal start ++ (codes " " ++ encode_upper octets))))
