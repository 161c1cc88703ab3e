-- AtomicWriteFile as text (clause 14.2).
use Rattle.std.specs.Prelude.{ℕ, ℤ, negsuc, ◌^◌, nat_lt, if◌then◌else◌, List, ◌++◌, length, codes, decimal, Option, Some, None}
use Rattle.std.specs.Fmt.{signed_decimal}
use Rattle.hex.specs.Hex.{encode_upper}
use Rattle.bac_service.specs.Values.{is_end}
use Rattle.bac_service.specs.Values.{Request, WriteAccess}
use Rattle.bac_service.specs.Values.WriteAccess.{WriteStream, WriteRecords}
use Rattle.bac_service.specs.Values.Request.{WriteFile}
use Rattle.bac_service.specs.declared.atomic_write_file.FileWritten.{FileWritten}
use Rattle.bac_service.specs.declared.atomic_write_file.FileWritten.TheVariants as place
use Rattle.bac_value.specs.Value.{ObjectId}
use Rattle.bac_value_text.specs.Numbers.{◌>>=◌, octets_of, signed_of}
use Rattle.bac_value_text.specs.Texts.{object_text}

-- ---- the request in words

abbrev pub append_words : ObjectId → (octets : List ℕ) → List ℕ
append_words file octets = codes "append " ++ (object_text file ++ (codes " " ++ encode_upper octets))

abbrev pub put_words : ObjectId → ℤ → (octets : List ℕ) → List ℕ
put_words file start octets =
    codes "put " ++ (object_text file ++ (codes " " ++ (signed_decimal start ++ (codes " " ++ encode_upper octets))))

abbrev pub stream_words : ObjectId → ℤ → (octets : List ℕ) → List ℕ
stream_words file start octets = if is_end start then append_words file octets else put_words file start octets

-- of records their number alone
abbrev pub put_records_words : ObjectId → ℤ → ℕ → List ℕ
put_records_words file start count =
    codes "put " ++ (object_text file ++ (codes " record " ++ (signed_decimal start ++ (codes " count " ++ decimal count))))

abbrev pub write_file_words : ObjectId → WriteAccess → List ℕ
write_file_words file (WriteStream start octets) = stream_words file start octets
write_file_words file (WriteRecords start count run) = put_records_words file start count

-- in short: of records not even their number
abbrev pub write_file_label : ObjectId → WriteAccess → List ℕ
write_file_label file (WriteStream start octets) = stream_words file start octets
write_file_label file (WriteRecords start count run) = codes "put records " ++ object_text file

-- ---- the request, read

-- the octets, where an octet string can have so many (clause 20.2.8)
abbrev pub content_in : List ℕ → Option (List ℕ)
content_in octets = if nat_lt (length octets) (2 ^ 32) then Some octets else None

unfoldable pub written_at : ObjectId → ℤ → (content : List ℕ) → Option Request
written_at file start content = do
  octets ← octets_of content
  octets ← content_in octets
  Some (WriteFile file (WriteStream start octets))

-- append OBJECT OCTETS: position -1 appends
abbrev pub append_of : ObjectId → (content : List ℕ) → Option Request
append_of file content = written_at file (negsuc 0) content

-- put OBJECT POSITION OCTETS
abbrev pub put_of : ObjectId → (start content : List ℕ) → Option Request
put_of file start content = signed_of start >>= (λ position. written_at file position content)

-- ---- the reply

abbrev pub position_text : ℤ → List ℕ
position_text start = codes "position " ++ signed_decimal start

abbrev pub record_text : ℤ → List ℕ
record_text start = codes "record " ++ signed_decimal start

abbrev pub written_text : FileWritten → List ℕ
written_text (place.Stream start) = position_text start
written_text (place.Records start) = record_text start
