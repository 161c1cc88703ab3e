-- A fault is what was wanted, if it is the fault.
use Rattle.std.proofs.Common.{ℕ, Bool, true, false, ◌||◌, List, Option, Some, None, Err, refl, if◌then◌else◌}
use Rattle.std.specs.Float.{Float, binary32, binary64}
use Rattle.std.specs.Str.{is_utf8}
use Rattle.fast_float.specs.Parse.{parse_float}
use Rattle.bac_point_text.specs.declared.kind.Kind.{Kind}
use Rattle.bac_point_text.specs.declared.kind.Kind.TheVariants as kind
use Rattle.bac_point_text.specs.declared.written_fault.WrittenFault.{WrittenFault}
use Rattle.bac_point_text.specs.declared.written_fault.WrittenFault.TheVariants as fault
use Rattle.bac_point_text.specs.Faults.{are_digits, is_below_zero, float_fault, fault_of}
use Rattle.bac_point_text.specs.Written.{IsWritten}

abbrev IsOwn : WrittenFault → Type 0
IsOwn f = IsWritten (Err f) (Err f)

chosen : (a b : Bool) (x y z : WrittenFault) → IsOwn x → IsOwn y → IsOwn z → IsOwn (if a then x else (if b then y else z))
chosen true b x y z h i j = h
chosen false true x y z h i j = i
chosen false false x y z h i j = j

one : (a : Bool) (x y : WrittenFault) → IsOwn x → IsOwn y → IsOwn (if a then x else y)
one true x y h i = h
one false x y h i = i

float : (o : Option Float) → IsOwn (float_fault o)
float None = refl
float (Some x) = refl

pub own : (k : Kind) (has : Bool) (text : List ℕ) → IsWritten (Err (fault_of k has text)) (Err (fault_of k has text))
own kind.Null has text = refl
own kind.Boolean has text = refl
own kind.Unsigned has text = chosen (are_digits text) (is_below_zero text) fault.OutOfRange fault.Negative fault.NoNumber refl refl refl
own kind.Signed has text = one (are_digits text || is_below_zero text) fault.OutOfRange fault.NoNumber refl refl
own kind.Real has text = float (parse_float binary32 text)
own kind.Double has text = float (parse_float binary64 text)
own kind.OctetString has text = refl
own kind.CharacterString has text = one (is_utf8 text) fault.TooLong fault.NotUtf8 refl refl
own kind.BitString has text = refl
own kind.Enumerated has text =
    chosen (are_digits text) (is_below_zero text) fault.OutOfRange fault.Negative (if has then fault.UnknownName None else fault.NoNumber) refl refl
    (one has (fault.UnknownName None) fault.NoNumber refl refl)
own kind.Date has text = refl
own kind.Time has text = refl
own kind.ObjectIdentifier has text = refl
