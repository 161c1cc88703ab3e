-- The value that a text is, of the kind that it has to have.
use Rattle.std.specs.Prelude.{◌≡◌, ⊤, ℕ, ◌-◌, ◌%◌, ◌^◌, nat_lt, Bool, true, if◌then◌else◌, List, ◌++◌, codes, Option, Some, None, Result, Ok, Err, is_some}
use Rattle.std.specs.Int.{w32, w64, from_be_bytes}
use Rattle.std.specs.Option.{option_map, option_or}
use Rattle.std.specs.Str.{bytes_eq, is_utf8}
use Rattle.bac_value.specs.declared.value.Value.{Value}
use Rattle.bac_value.specs.Value.{Datum, null, real, double, enumerated}
use Rattle.bac_value.specs.Views.{value_view}
use Rattle.bac_value_text.specs.Numbers.{◌>>=◌, number_up_to, parts_at}
use Rattle.bac_value_text.specs.Reading.{characters_fit, value_in}
use Rattle.bac_point_text.specs.declared.kind.Kind.{Kind}
use Rattle.bac_point_text.specs.declared.kind.Kind.TheVariants as kind
use Rattle.bac_point_text.specs.declared.written_fault.WrittenFault.{WrittenFault}
use Rattle.bac_point_text.specs.declared.written_fault.WrittenFault.TheVariants as fault
use Rattle.bac_point_text.specs.Enumerations.{Names, number_of}
use Rattle.bac_point_text.specs.Faults.{fault_of, bare}

-- ---- each kind

-- the word for a kind, and a colon
abbrev pub kind_word : Kind → List ℕ
kind_word kind.Null = codes "null:"
kind_word kind.Boolean = codes "boolean:"
kind_word kind.Unsigned = codes "unsigned:"
kind_word kind.Signed = codes "signed:"
kind_word kind.Real = codes "real:"
kind_word kind.Double = codes "double:"
kind_word kind.OctetString = codes "octets:"
kind_word kind.CharacterString = codes "text:"
kind_word kind.BitString = codes "bits:"
kind_word kind.Enumerated = codes "enumerated:"
kind_word kind.Date = codes "date:"
kind_word kind.Time = codes "time:"
kind_word kind.ObjectIdentifier = codes "object:"

-- the value that a text is behind the word for its kind
abbrev pub worded : Kind → List ℕ → Option Datum
worded k text = value_in 58 (kind_word k ++ text)

abbrev pub is_finite : Datum → Bool
is_finite (real a) = nat_lt (from_be_bytes w32 a % 0x8000_0000) 0x7f80_0000
is_finite (double a) = nat_lt (from_be_bytes w64 a % 0x8000_0000_0000_0000) 0x7ff0_0000_0000_0000
is_finite _ = true

abbrev pub if_finite : Datum → Option Datum
if_finite d = if is_finite d then Some d else None

-- a number that is finite
abbrev pub finite : Kind → List ℕ → Option Datum
finite k text = worded k text >>= if_finite

-- a date, of which the day of the week may be left out
abbrev pub date_of : List ℕ → Option Datum
date_of text = option_or (worded kind.Date text) (worded kind.Date (text ++ codes "-*"))

-- a time, of which hundredths may be left out, and seconds too
abbrev pub time_of : List ℕ → Option Datum
time_of text =
    option_or (worded kind.Time text) (option_or (worded kind.Time (text ++ codes ".0")) (worded kind.Time (text ++ codes ":0.0")))

-- a text as it is
abbrev pub text_of : List ℕ → Option Datum
text_of text = if is_utf8 text then characters_fit 0 text else None

abbrev pub behind_hex : Option (List ℕ × List ℕ) → Option Datum
behind_hex None = None
behind_hex (Some parts) = if bytes_eq parts.0 (codes "hex") then worded kind.OctetString parts.1 else None

-- octets behind `hex:`
abbrev pub octets_of : List ℕ → Option Datum
octets_of text = behind_hex (parts_at 58 text)

abbrev pub number_among : Option Names → List ℕ → Option ℕ
number_among names text = names >>= (λ e. number_of e text)

-- a number by its name, or in digits
abbrev pub enumerated_of : Option Names → List ℕ → Option ℕ
enumerated_of names text = option_or (number_among names text) (number_up_to (2 ^ 32 - 1) text)

abbrev pub of_kind : Kind → Option Names → List ℕ → Option Datum
of_kind kind.Real names text = finite kind.Real text
of_kind kind.Double names text = finite kind.Double text
of_kind kind.CharacterString names text = text_of text
of_kind kind.OctetString names text = octets_of text
of_kind kind.Enumerated names text = option_map enumerated (enumerated_of names text)
of_kind kind.Date names text = date_of text
of_kind kind.Time names text = time_of text
of_kind k names text = worded k text

-- ---- the value, or why there is none

abbrev pub null_or : WrittenFault → List ℕ → Result Datum WrittenFault
null_or f text = if bytes_eq text (codes "null") then Ok null else Err f

abbrev pub settled : Option Datum → Result Datum WrittenFault → Result Datum WrittenFault
settled (Some d) otherwise = Ok d
settled None otherwise = otherwise

-- a value of the kind; else Null, of `null`; else why it is no value
abbrev pub written : Kind → Option Names → List ℕ → Result Datum WrittenFault
written k names text = settled (of_kind k names text) (null_or (fault_of k (is_some names) text) text)

-- the result is what was wanted, or an allocation failed; a name that is like an unknown one is left open
abbrev pub IsWritten : Result Value WrittenFault → (wanted : Result Datum WrittenFault) → Type 0
IsWritten (Ok v) wanted = wanted ≡ Ok (value_view v)
IsWritten (Err fault.NoMemory) wanted = ⊤
IsWritten (Err f) wanted = wanted ≡ Err (bare f)
