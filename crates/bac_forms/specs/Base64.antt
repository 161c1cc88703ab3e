-- Lines of Base64 (RFC 4648), a datagram on each.
use Rattle.std.specs.Prelude.{ℕ, Bool, if◌then◌else◌, ◌+◌, ◌==◌, List, [], ◌∷◌, ◌++◌, length, min, Option, Some, None, Result, Ok, Err}
use Rattle.base64.specs.Engines.{standard}
use Rattle.base64.specs.GeneralPurpose.{decode_of}
use Rattle.base64.specs.declared.decode.DecodeError.{DecodeError}
use Rattle.base64.specs.declared.decode.DecodeError.TheVariants.{InvalidByte, InvalidLength, InvalidLastSymbol, InvalidPadding}
use Rattle.bac_value_text.specs.Numbers.{parts_at}
use Rattle.bac_value_text.specs.Splits.{split_by}
use Rattle.bac_forms.specs.Scans.{Reading}

abbrev pub is_line_end : ℕ → Bool
is_line_end octet = octet == 10

abbrev pub lines_of : List ℕ → List (List ℕ)
lines_of text = split_by is_line_end text

-- the line without the carriage return at its end
abbrev pub without_return_at : List ℕ → Option (List ℕ × List ℕ) → List ℕ
without_return_at line None = line
without_return_at line (Some (front, [])) = front
without_return_at line (Some (front, octet ∷ octets)) = line

abbrev pub without_return : List ℕ → List ℕ
without_return line = without_return_at line (parts_at 13 line)

abbrev pub place_in : List ℕ → DecodeError → ℕ
place_in line (InvalidByte offset byte) = min offset (length line)
place_in line (InvalidLength offset) = min offset (length line)
place_in line (InvalidLastSymbol offset symbol value) = min offset (length line)
place_in line InvalidPadding = length line

abbrev pub decoded_in : (line : List ℕ) → Result (List ℕ) DecodeError → Result (Option (List ℕ)) ℕ
decoded_in line (Ok datagram) = Ok (Some datagram)
decoded_in line (Err error) = Err (place_in line error)

abbrev pub symbols_at : (line symbols : List ℕ) → Result (Option (List ℕ)) ℕ
symbols_at line symbols = if length symbols == 0 then Ok None else decoded_in line (decode_of standard symbols)

-- the datagram of a line, none of a blank one; or how many characters stand before the first that does not fit
abbrev pub line_at : List ℕ → Result (Option (List ℕ)) ℕ
line_at line = symbols_at line (without_return line)

-- the datagrams with that of a line which begins at that place
abbrev pub with_line : (place : ℕ) → Result (Option (List ℕ)) ℕ → (before : List (List ℕ)) → Reading
with_line place (Err offset) before = Err (place + offset)
with_line place (Ok None) before = Ok before
with_line place (Ok (Some datagram)) before = Ok (before ++ datagram ∷ [])

abbrev pub goes_on : Reading → (List (List ℕ) → Reading) → Reading
goes_on (Err place) go = Err place
goes_on (Ok datagrams) go = go datagrams

abbrev pub with_lines : (place : ℕ) → (before : List (List ℕ)) → List (List ℕ) → Reading
with_lines place before [] = Ok before
with_lines place before (line ∷ lines) =
    goes_on (with_line place (line_at line) before) (λ datagrams. with_lines (place + length line + 1) datagrams lines)

abbrev pub base64_whole : List ℕ → Reading
base64_whole text = with_lines 0 [] (lines_of text)
