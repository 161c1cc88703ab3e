-- The printed texts of values.
use Rattle.std.specs.Prelude.{◌≡◌, ℕ, ◌+◌, ◌-◌, ◌/◌, ◌%◌, nat_lt, nat_le, ◌==◌, ◌&&◌, ◌||◌, Bool, true, false, IsTrue, IsFalse, List, [], ◌∷◌, ◌++◌, length, take, slice_index, codes, decimal, if◌then◌else◌, Option, Some, None, from_bits}
use Rattle.std.specs.Fmt.{signed_decimal}
use Rattle.std.specs.Float.{Float, Format, binary32, binary64, float_is_finite}
use Rattle.std.specs.Int.{w32, w64, from_be_bytes}
use Rattle.std.specs.List.{flat_map}
use Rattle.std.specs.Str.{is_utf8}
use Rattle.percent_encoding.specs.Percent.{percent_encode_byte}
use Rattle.fast_float.specs.Parse.{parse_float}
use Rattle.hex.specs.Hex.{encode_upper}
use Rattle.bac_value_text.specs.Names.{name_in}
use Rattle.bac_value_text.specs.Numbers.{is_infinity}
use Rattle.bac_value_text.specs.ObjectTypes.{OBJECT_TYPES}
use Rattle.bac_value_text.specs.Properties.{PROPERTIES}
use Rattle.bac_value.specs.Value.{Datum, ObjectId, null, boolean, unsigned, signed, real, double, octets, characters, bits, enumerated}
use Rattle.bac_value.specs.Value.{date, time, object}

-- ---- floats (clauses 20.2.6 and 20.2.7): a number as decimal text, all else as its octets

-- the octets encode a number, not NaN
abbrev pub is_real_number : List ℕ → Bool
is_real_number a = nat_le (from_be_bytes w32 a % 0x8000_0000) 0x7f80_0000

abbrev pub is_double_number : List ℕ → Bool
is_double_number a = nat_le (from_be_bytes w64 a % 0x8000_0000_0000_0000) 0x7ff0_0000_0000_0000

-- any text that reads as a number; for an infinity, its word
abbrev pub IsNumberText : Format → Float → List ℕ → Type 0
IsNumberText format x text = (parse_float format text ≡ Some x) × (IsFalse (float_is_finite x) → IsTrue (is_infinity text))

abbrev pub IsRealText : (is_number : Bool) → List ℕ → List ℕ → Type 0
IsRealText true a text = IsNumberText binary32 (from_bits binary32 (from_be_bytes w32 a)) text
IsRealText false a text = text ≡ encode_upper a

abbrev pub IsDoubleText : (is_number : Bool) → List ℕ → List ℕ → Type 0
IsDoubleText true a text = IsNumberText binary64 (from_bits binary64 (from_be_bytes w64 a)) text
IsDoubleText false a text = text ≡ encode_upper a

-- ---- character strings (clause 20.2.9): text in set 0, which is UTF-8, unchanged; all others as their set and their octets

abbrev pub is_text : ℕ → List ℕ → Bool
is_text set text = set == 0 && is_utf8 text

-- control characters and the percent sign are escaped, so that a text stays on one line
abbrev pub escaped_octet : ℕ → List ℕ
escaped_octet octet = if nat_lt octet 32 || (octet == 37 || octet == 127) then percent_encode_byte octet else octet ∷ []

abbrev pub escaped : List ℕ → List ℕ
escaped text = flat_map escaped_octet text

abbrev pub characters_text : (is_text : Bool) → ℕ → List ℕ → List ℕ
characters_text true set text = escaped text
characters_text false set text = decimal set ++ (codes ":" ++ encode_upper text)

-- ---- bit strings (clause 20.2.10): a digit for each bit, the first bit first

abbrev pub bit_digits : ℕ → List ℕ
bit_digits octet =
    (48 + octet / 2 / 2 / 2 / 2 / 2 / 2 / 2 % 2) ∷ (48 + octet / 2 / 2 / 2 / 2 / 2 / 2 % 2) ∷ (48 + octet / 2 / 2 / 2 / 2 / 2 % 2)
    ∷ (48 + octet / 2 / 2 / 2 / 2 % 2) ∷ (48 + octet / 2 / 2 / 2 % 2) ∷ (48 + octet / 2 / 2 % 2) ∷ (48 + octet / 2 % 2)
    ∷ (48 + octet % 2) ∷ []

abbrev pub all_bits : List ℕ → List ℕ
all_bits a = flat_map bit_digits a

abbrev pub bits_text : (unused : ℕ) → List ℕ → List ℕ
bits_text unused a = take (length (all_bits a) - unused) (all_bits a)

-- ---- dates and times (clauses 20.2.12 and 20.2.13): four fields, * for one that is not specified

-- a field, which counts from a number on
abbrev pub field_text : (base : ℕ) → ℕ → List ℕ
field_text base octet = if octet == 255 then codes "*" else decimal (base + octet)

-- fields with separators between them
abbrev pub fields_text : (base : ℕ) → (separators fields : List ℕ) → List ℕ
fields_text base separators fields =
    field_text base (slice_index fields 0)
    ++ (slice_index separators 0 ∷ (field_text 0 (slice_index fields 1)
    ++ (slice_index separators 1 ∷ (field_text 0 (slice_index fields 2)
    ++ (slice_index separators 2 ∷ field_text 0 (slice_index fields 3))))))

-- year, month, day and day of the week, separated by -
abbrev pub date_text : List ℕ → List ℕ
date_text a = fields_text 1900 (codes "---") a

-- hours, minutes and seconds, separated by :, and hundredths after a point
abbrev pub time_text : List ℕ → List ℕ
time_text a = fields_text 0 (codes "::.") a

-- ---- objects (clause 20.2.14)

-- an object type, by its name if the standard has one
abbrev pub named_or_number : Option (List ℕ) → ℕ → List ℕ
named_or_number (Some name) number = name
named_or_number None number = decimal number

abbrev pub type_text : ℕ → List ℕ
type_text kind = named_or_number (name_in OBJECT_TYPES kind) kind

abbrev pub property_text : ℕ → List ℕ
property_text property = named_or_number (name_in PROPERTIES property) property

abbrev pub object_text : ObjectId → List ℕ
object_text i = type_text i.kind ++ (58 ∷ decimal i.instance)

abbrev pub boolean_text : Bool → List ℕ
boolean_text b = if b then codes "true" else codes "false"

-- ---- values

-- the name of a kind; NaN, and characters that are not text, have other names
abbrev pub kind_name : Datum → List ℕ
kind_name null = codes "null"
kind_name (boolean b) = codes "boolean"
kind_name (unsigned n) = codes "unsigned"
kind_name (signed z) = codes "signed"
kind_name (real a) = if is_real_number a then codes "real" else codes "real-octets"
kind_name (double a) = if is_double_number a then codes "double" else codes "double-octets"
kind_name (octets a) = codes "octets"
kind_name (characters set text) = if is_text set text then codes "text" else codes "characters"
kind_name (bits unused a) = codes "bits"
kind_name (enumerated n) = codes "enumerated"
kind_name (date a) = codes "date"
kind_name (time a) = codes "time"
kind_name (object i) = codes "object"

-- the text of a value after the name and the separator
abbrev pub IsBody : Datum → List ℕ → Type 0
IsBody null text = text ≡ []
IsBody (boolean b) text = text ≡ boolean_text b
IsBody (unsigned n) text = text ≡ decimal n
IsBody (signed z) text = text ≡ signed_decimal z
IsBody (real a) text = IsRealText (is_real_number a) a text
IsBody (double a) text = IsDoubleText (is_double_number a) a text
IsBody (octets a) text = text ≡ encode_upper a
IsBody (characters set a) text = text ≡ characters_text (is_text set a) set a
IsBody (bits unused a) text = text ≡ bits_text unused a
IsBody (enumerated n) text = text ≡ decimal n
IsBody (date a) text = text ≡ date_text a
IsBody (time a) text = text ≡ time_text a
IsBody (object i) text = text ≡ object_text i

-- a name, the separator, and the text after it
abbrev pub IsNamed : (separator : ℕ) → Datum → List ℕ → Type 0
IsNamed separator d text = (body : List ℕ) × (IsBody d body × (text ≡ kind_name d ++ (separator ∷ body)))

-- the text is a printed text of the value
abbrev pub IsTextOf : (separator : ℕ) → Datum → List ℕ → Type 0
IsTextOf separator null text = text ≡ codes "null"
IsTextOf separator d text = IsNamed separator d text
