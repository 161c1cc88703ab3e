-- Why a text is no value of a kind.
use Rattle.std.specs.Prelude.{ℕ, Bool, not, ◌==◌, ◌&&◌, ◌||◌, if◌then◌else◌, List, length, drop, Option, Some, None}
use Rattle.std.specs.Char.{is_ascii_digit}
use Rattle.std.specs.Float.{Float, binary32, binary64}
use Rattle.std.specs.List.{list_all}
use Rattle.std.specs.Str.{is_utf8}
use Rattle.fast_float.specs.Parse.{parse_float}
use Rattle.bac_value_text.specs.Numbers.{is_minus}
use Rattle.bac_point_text.specs.declared.kind.Kind.{Kind}
use Rattle.bac_point_text.specs.declared.kind.Kind.TheVariants as kind
use Rattle.bac_point_text.specs.declared.written_fault.WrittenFault.{WrittenFault}
use Rattle.bac_point_text.specs.declared.written_fault.WrittenFault.TheVariants as fault

abbrev pub are_digits : List ℕ → Bool
are_digits text = not (length text == 0) && list_all is_ascii_digit text

-- a minus and digits
abbrev pub is_below_zero : List ℕ → Bool
is_below_zero text = is_minus text && are_digits (drop 1 text)

abbrev pub unsigned_fault : List ℕ → WrittenFault
unsigned_fault text =
    if are_digits text then fault.OutOfRange else (if is_below_zero text then fault.Negative else fault.NoNumber)

abbrev pub signed_fault : List ℕ → WrittenFault
signed_fault text = if are_digits text || is_below_zero text then fault.OutOfRange else fault.NoNumber

-- a number, or a name if the numbers have names
abbrev pub enumerated_fault : (has_names : Bool) → List ℕ → WrittenFault
enumerated_fault has_names text =
    if are_digits text then fault.OutOfRange
    else (if is_below_zero text then fault.Negative else (if has_names then fault.UnknownName None else fault.NoNumber))

-- a number that is not finite, or no number
abbrev pub float_fault : Option Float → WrittenFault
float_fault None = fault.NoNumber
float_fault (Some x) = fault.NotFinite

abbrev pub text_fault : List ℕ → WrittenFault
text_fault text = if is_utf8 text then fault.TooLong else fault.NotUtf8

abbrev pub fault_of : Kind → (has_names : Bool) → List ℕ → WrittenFault
fault_of kind.Null has_names text = fault.NoNull
fault_of kind.Boolean has_names text = fault.NoBoolean
fault_of kind.Unsigned has_names text = unsigned_fault text
fault_of kind.Signed has_names text = signed_fault text
fault_of kind.Real has_names text = float_fault (parse_float binary32 text)
fault_of kind.Double has_names text = float_fault (parse_float binary64 text)
fault_of kind.OctetString has_names text = fault.NoOctets
fault_of kind.CharacterString has_names text = text_fault text
fault_of kind.BitString has_names text = fault.NoBits
fault_of kind.Enumerated has_names text = enumerated_fault has_names text
fault_of kind.Date has_names text = fault.NoDate
fault_of kind.Time has_names text = fault.NoTime
fault_of kind.ObjectIdentifier has_names text = fault.NoObject

-- the same fault with no name beside it
abbrev pub bare : WrittenFault → WrittenFault
bare (fault.UnknownName nearest) = fault.UnknownName None
bare f = f
