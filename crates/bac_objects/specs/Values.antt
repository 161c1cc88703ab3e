-- The value in a document under the word of its kind (clause 20.2).
use Rattle.std.specs.Prelude.{ℕ, ◌+◌, ◌-◌, ◌/◌, ◌^◌, nat_le, nat_lt, ◌&&◌, not, List, [], ◌∷◌, length, Bool, true, false, to_bits, if◌then◌else◌, Option, Some, None, Result, Ok, Err}
use Rattle.std.specs.Float.{Float, binary32, binary64, float_is_finite, round_to_format}
use Rattle.std.specs.Int.{w32, w64, to_be_bytes}
use Rattle.hex.specs.Hex.{decode_of}
use Rattle.hex.specs.declared.error.FromHexError.{FromHexError}
use Rattle.toml_datetime.specs.declared.datetime.Date.{Date}
use Rattle.toml_datetime.specs.declared.datetime.Time.{Time}
use Rattle.bac_value.specs.Steps.{◌>>=◌}
use Rattle.bac_value.specs.Value.{Datum, null, boolean, unsigned, signed, real, double, octets, characters, enumerated, date, time, object}
use Rattle.toml.specs.Data.{Data, as_str}
use Rattle.bac_point_text.specs.Enumerations.{Names}
use Rattle.bac_point_text.specs.Enumerations.{number_of as number_named}
use Rattle.bac_objects.specs.Bits.{bits_of}
use Rattle.bac_objects.specs.Identifiers.{identifier_of}
use Rattle.bac_objects.specs.Reading.{boolean_of, datetime_of, fitting, integer_of, number_of, number_up_to, other, text_of}
use Rattle.bac_objects.specs.declared.form.Kind.{Kind}
use Rattle.bac_objects.specs.declared.form.Kind.TheVariants as kind
use Rattle.bac_objects.specs.declared.problem.Problem.{Problem}
use Rattle.bac_objects.specs.declared.problem.Wanted.TheVariants as wanted

-- ---- null, true and false

abbrev pub only_true : Bool → Result Datum Problem
only_true true = Ok null
only_true false = Err (other wanted.True)

abbrev pub null_of : Data → Result Datum Problem
null_of d = boolean_of wanted.True d >>= only_true

abbrev pub truth_of : Data → Result Datum Problem
truth_of d = boolean_of wanted.Boolean d >>= (λ b. Ok (boolean b))

-- ---- numbers

abbrev pub unsigned_of : Data → Result Datum Problem
unsigned_of d = number_up_to (2 ^ 63 - 1) wanted.Unsigned d >>= (λ n. Ok (unsigned n))

abbrev pub signed_of : Data → Result Datum Problem
signed_of d = integer_of wanted.Integer d >>= (λ z. Ok (signed z))

abbrev pub numbered_of : Data → Result Datum Problem
numbered_of d = number_up_to (2 ^ 32 - 1) wanted.Enumerated d >>= (λ n. Ok (enumerated n))

abbrev pub or_unknown : Option ℕ → Result Datum Problem
or_unknown (Some n) = Ok (enumerated n)
or_unknown None = Err (other wanted.Name)

abbrev pub named_or_numbered : Names → Data → Option (List ℕ) → Result Datum Problem
named_or_numbered names d (Some name) = or_unknown (number_named names name)
named_or_numbered names d None = numbered_of d

-- a number, or where the standard has names for it the name of one
abbrev pub enumerated_of : Option Names → Data → Result Datum Problem
enumerated_of (Some names) d = named_or_numbered names d (as_str d)
enumerated_of None d = numbered_of d

-- clause 20.2.6: the float of 32 bits that is nearest to TOML's number as one of 64 bits, which itself is nearest to the number in the text
abbrev pub single : Float → Float
single x = round_to_format binary32 x

-- a number that becomes infinite in 32 bits
abbrev pub is_beyond : Float → Bool
is_beyond x = float_is_finite x && not (float_is_finite (single x))

abbrev pub real_with : Float → Result Datum Problem
real_with x = if is_beyond x then Err (other wanted.Single) else Ok (real (to_be_bytes w32 (to_bits binary32 (single x))))

abbrev pub real_of : Data → Result Datum Problem
real_of d = number_of wanted.Float d >>= real_with

abbrev pub double_of : Data → Result Datum Problem
double_of d = number_of wanted.Float d >>= (λ x. Ok (double (to_be_bytes w64 (to_bits binary64 x))))

-- ---- octets and texts

abbrev pub decoded : Result (List ℕ) FromHexError → Result (List ℕ) Problem
decoded (Ok xs) = Ok xs
decoded (Err e) = Err (other wanted.Hex)

-- octets in hexadecimal
abbrev pub hex_of : Data → Result (List ℕ) Problem
hex_of d = text_of wanted.Hex d >>= (λ text. decoded (decode_of text))

abbrev pub octets_of : Data → Result Datum Problem
octets_of d = hex_of d >>= (λ xs. fitting (nat_lt (length xs) (2 ^ 32)) (octets xs))

-- character set 0 is UTF-8 (clause 20.2.9)
abbrev pub characters_of : Data → Result Datum Problem
characters_of d = text_of wanted.Text d >>= (λ text. fitting (nat_lt (length text + 1) (2 ^ 32)) (characters 0 text))

-- ---- dates and times

-- clause 20.2.12: years since 1900, the month, the day, and any day of the week
abbrev pub date_in : Date → Result Datum Problem
date_in d =
    if nat_le 1900 d.year && nat_le d.year 2154 then Ok (date ((d.year - 1900) ∷ d.month ∷ d.day ∷ 255 ∷ [])) else Err (other wanted.Date)

abbrev pub date_alone : Option Date → Option Time → Result Datum Problem
date_alone (Some d) None = date_in d
date_alone (Some d) (Some t) = Err (other wanted.Date)
date_alone None t = Err (other wanted.Date)

abbrev pub date_of : Data → Result Datum Problem
date_of d = datetime_of wanted.Date d >>= (λ dt. date_alone dt.date dt.time)

abbrev pub or_zero : Option ℕ → ℕ
or_zero (Some n) = n
or_zero None = 0

-- clause 20.2.13: the hour, the minute, the second and its hundredths
abbrev pub time_in : (hour minute second nanosecond : ℕ) → Result Datum Problem
time_in hour minute second nanosecond =
    if nat_lt second 60 && nat_lt nanosecond 1000000000 then Ok (time (hour ∷ minute ∷ second ∷ (nanosecond / 10000000) ∷ []))
    else Err (other wanted.Time)

abbrev pub time_alone : Option Date → Option Time → Result Datum Problem
time_alone None (Some t) = time_in t.hour t.minute (or_zero t.second) (or_zero t.nanosecond)
time_alone None None = Err (other wanted.Time)
time_alone (Some d) t = Err (other wanted.Time)

abbrev pub time_of : Data → Result Datum Problem
time_of d = datetime_of wanted.Time d >>= (λ dt. time_alone dt.date dt.time)

-- ---- identifiers

abbrev pub object_of : Data → Result Datum Problem
object_of d = identifier_of d >>= (λ i. Ok (object i))

-- ---- the kinds

abbrev pub value_of : Option Names → Kind → Data → Result Datum Problem
value_of names kind.Null d = null_of d
value_of names kind.Boolean d = truth_of d
value_of names kind.Unsigned d = unsigned_of d
value_of names kind.Signed d = signed_of d
value_of names kind.Real d = real_of d
value_of names kind.Double d = double_of d
value_of names kind.Octets d = octets_of d
value_of names kind.Text d = characters_of d
value_of names kind.Bits d = bits_of d
value_of names kind.Enumerated d = enumerated_of names d
value_of names kind.Date d = date_of d
value_of names kind.Time d = time_of d
value_of names kind.Object d = object_of d
