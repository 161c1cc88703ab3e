-- The value that a text reads as.
use Rattle.std.specs.Prelude.{◌≡◌, ⊤, ℕ, ◌+◌, ◌-◌, ◌*◌, ◌/◌, ◌%◌, ◌^◌, suc, zero, nat_le, nat_lt, Bool, true, false, ◌==◌, ◌&&◌, ◌||◌, List, [], ◌∷◌, length, drop, slice_index, codes, if◌then◌else◌}
use Rattle.std.specs.Prelude.{Option, Some, None, Result, Ok, Err, is_nan, to_bits, not}
use Rattle.std.specs.Float.{Float, binary32, binary64, float_is_finite}
use Rattle.std.specs.Int.{w32, w64, to_be_bytes}
use Rattle.std.specs.List.{list_all}
use Rattle.std.specs.Option.{option_map, option_or}
use Rattle.std.specs.Str.{bytes_eq}
use Rattle.fast_float.specs.Parse.{parse_float}
use Rattle.percent_encoding.specs.Percent.{percent_decode}
use Rattle.bac_value_text.specs.Names.{number_in}
use Rattle.bac_value_text.specs.ObjectTypes.{OBJECT_TYPES}
use Rattle.bac_value_text.specs.Properties.{PROPERTIES}
use Rattle.bac_value.specs.Limits.{bits_fit}
use Rattle.bac_value.specs.Value.{Datum, ObjectId, null, boolean, unsigned, signed, real, double, octets, characters, bits, enumerated}
use Rattle.bac_value.specs.Value.{date, time, object}
use Rattle.bac_value_text.specs.Numbers.{◌>>=◌, is_infinity, number_of, at_most, number_up_to, signed_of, octets_of, array_of, parts_at}
use Rattle.bac_value_text.specs.declared.value_fault.ValueFault.{ValueFault}
use Rattle.bac_value_text.specs.declared.value_fault.ValueFault.TheVariants.{NoValue, NoMemory}

-- ---- each kind

abbrev pub boolean_in : List ℕ → Option Bool
boolean_in body = if bytes_eq body (codes "true") then Some true else (if bytes_eq body (codes "false") then Some false else None)

-- a text that reads as NaN, or as an infinity though it is not the word of one, as the digits of a number that is too large
abbrev pub is_no_number : (body : List ℕ) → Float → Bool
is_no_number body x = is_nan x || not (float_is_finite x || is_infinity body)

abbrev pub real_of : (body : List ℕ) → Float → Option (List ℕ)
real_of body x = if is_no_number body x then None else Some (to_be_bytes w32 (to_bits binary32 x))

abbrev pub double_of : (body : List ℕ) → Float → Option (List ℕ)
double_of body x = if is_no_number body x then None else Some (to_be_bytes w64 (to_bits binary64 x))

abbrev pub real_in : List ℕ → Option (List ℕ)
real_in body = parse_float binary32 body >>= real_of body

abbrev pub double_in : List ℕ → Option (List ℕ)
double_in body = parse_float binary64 body >>= double_of body

-- a field of a date or a time, which counts from a number on; 255 means not specified
abbrev pub field_from : (base number : ℕ) → Option ℕ
field_from base number = if nat_le base number && nat_lt (number - base) 255 then Some (number - base) else None

abbrev pub field_in : (base : ℕ) → List ℕ → Option ℕ
field_in base word = if bytes_eq word (codes "*") then Some 255 else (number_of word >>= field_from base)

unfoldable pub fields_in : (base : ℕ) → (separators word : List ℕ) → Option (List ℕ)
fields_in base separators word = do
  first ← parts_at (slice_index separators 0) word
  second ← parts_at (slice_index separators 1) first.1
  third ← parts_at (slice_index separators 2) second.1
  w ← field_in base first.0
  x ← field_in 0 second.0
  y ← field_in 0 third.0
  z ← field_in 0 third.1
  Some (w ∷ x ∷ y ∷ z ∷ [])

-- an object type: its number or its name in the standard
abbrev pub type_of : List ℕ → Option ℕ
type_of word = option_or (number_of word) (number_in OBJECT_TYPES word) >>= at_most 1023

-- an object: its type and its instance with a colon between them (clause 20.2.14: 10 bits and 22 bits)
unfoldable pub object_of : List ℕ → Option ObjectId
object_of word = do
  halves ← parts_at 58 word
  kind ← type_of halves.0
  instance ← number_up_to 4194303 halves.1
  Some (record { kind = kind; instance = instance })

-- a property: its number or its name in the standard
abbrev pub property_of : List ℕ → Option ℕ
property_of word = option_or (number_of word) (number_in PROPERTIES word) >>= at_most (2 ^ 32 - 1)

-- octets, if an octet string can have this many (clause 20.2.8)
abbrev pub octets_fit : List ℕ → Option Datum
octets_fit a = if nat_lt (length a) (2 ^ 32) then Some (octets a) else None

-- characters, if a character string can have this many (clause 20.2.9)
abbrev pub characters_fit : ℕ → List ℕ → Option Datum
characters_fit set text = if nat_lt (length text + 1) (2 ^ 32) then Some (characters set text) else None

unfoldable pub characters_in : List ℕ → Option Datum
characters_in body = do
  halves ← parts_at 58 body
  set ← number_up_to 255 halves.0
  text ← octets_of halves.1
  characters_fit set text

-- ---- bits

abbrev pub is_bit : ℕ → Bool
is_bit digit = digit == 48 || digit == 49

abbrev pub bit_in : List ℕ → ℕ → ℕ
bit_in word i = if slice_index word i == 49 then 1 else 0

-- the octet of the first eight bits; missing bits are 0
abbrev pub octet_in : List ℕ → ℕ
octet_in word =
    bit_in word 7 + 2 * (bit_in word 6 + 2 * (bit_in word 5 + 2 * (bit_in word 4
    + 2 * (bit_in word 3 + 2 * (bit_in word 2 + 2 * (bit_in word 1 + 2 * bit_in word 0))))))

-- this many octets of bits
abbrev pub octets_from : (count : ℕ) → List ℕ → List ℕ
octets_from zero word = []
octets_from (suc count) word = octet_in word ∷ octets_from count (drop 8 word)

abbrev pub octets_for : List ℕ → List ℕ
octets_for word = octets_from ((length word + 7) / 8) word

-- the bits, if a bit string can have this many (clause 20.2.10)
abbrev pub bits_fitting : (unused : ℕ) → List ℕ → Option Datum
bits_fitting unused a = if bits_fit unused a && nat_lt (length a + 1) (2 ^ 32) then Some (bits unused a) else None

abbrev pub bits_in : List ℕ → Option Datum
bits_in body = if list_all is_bit body then bits_fitting ((8 - length body % 8) % 8) (octets_for body) else None

-- ---- by the name of the kind

abbrev pub number_value : (name body : List ℕ) → Option Datum
number_value name body =
    if bytes_eq name (codes "boolean") then option_map boolean (boolean_in body)
    else (if bytes_eq name (codes "unsigned") then option_map unsigned (number_of body)
    else (if bytes_eq name (codes "signed") then option_map signed (signed_of body)
    else (if bytes_eq name (codes "enumerated") then option_map enumerated (number_up_to (2 ^ 32 - 1) body)
    else (if bytes_eq name (codes "real") then option_map real (real_in body)
    else (if bytes_eq name (codes "double") then option_map double (double_in body)
    else None)))))

abbrev pub raw_value : (name body : List ℕ) → Option Datum
raw_value name body =
    if bytes_eq name (codes "date") then option_map date (fields_in 1900 (codes "---") body)
    else (if bytes_eq name (codes "time") then option_map time (fields_in 0 (codes "::.") body)
    else (if bytes_eq name (codes "object") then option_map object (object_of body)
    else (if bytes_eq name (codes "real-octets") then option_map real (array_of 4 body)
    else (if bytes_eq name (codes "double-octets") then option_map double (array_of 8 body)
    else None))))

abbrev pub string_value : (name body : List ℕ) → Option Datum
string_value name body =
    if bytes_eq name (codes "octets") then octets_of body >>= octets_fit
    else (if bytes_eq name (codes "text") then characters_fit 0 (percent_decode body)
    else (if bytes_eq name (codes "characters") then characters_in body
    else (if bytes_eq name (codes "bits") then bits_in body
    else None)))

abbrev pub named_value : (name body : List ℕ) → Option Datum
named_value name body = option_or (option_or (number_value name body) (raw_value name body)) (string_value name body)

-- a text without a separator
abbrev pub bare_value : List ℕ → Option Datum
bare_value text = if bytes_eq text (codes "null") then Some null else None

abbrev pub parted_value : (text : List ℕ) → Option (List ℕ × List ℕ) → Option Datum
parted_value text None = bare_value text
parted_value text (Some parts) = named_value parts.0 parts.1

-- the value that a text reads as
abbrev pub value_in : (separator : ℕ) → List ℕ → Option Datum
value_in separator text = parted_value text (parts_at separator text)

-- ---- the result of reading a text: the value, or a fault: the text is not a value, or an allocation failed
abbrev pub Reads : {A B : Type 0} → (A → B) → Result A ValueFault → (wanted : Option B) → Type 0
Reads view (Ok x) wanted = wanted ≡ Some (view x)
Reads view (Err NoValue) wanted = wanted ≡ None
Reads view (Err NoMemory) wanted = ⊤
