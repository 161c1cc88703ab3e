-- The properties that the standard requires of an object (clause 12), where its document gives it none.
use Rattle.std.specs.Prelude.{ℕ, nat_le, ◌==◌, ◌||◌, Bool, false, List, [], ◌∷◌, ◌++◌, map, if◌then◌else◌, Option, Some, None, Result, Ok, Err}
use Rattle.std.specs.Borrow.{Bor}
use Rattle.bac_value.specs.Reading.{data_of}
use Rattle.bac_value.specs.Steps.{◌>>=◌}
use Rattle.bac_store.specs.Stores.{File, Property}
use Rattle.bac_objects.specs.Properties.{has_number, property_with, whole_data}
use Rattle.bac_objects.specs.declared.problem.Problem.{Problem}
use Rattle.bac_objects.specs.declared.standard.TheConstants as code

-- the number of a property, and its encoded values
abbrev pub Row : Type 0
Row = ℕ × List ℕ

abbrev pub plain : List (ℕ × Bor (List ℕ)) → List Row
plain rows = map (λ r. (r.0, r.1.now)) rows

abbrev pub is_written : Option File → Bool
is_written (Some f) = f.writable
is_written None = false

unfoldable pub ANALOG : List Row
ANALOG = map (λ r. (r.0, r.1.now)) code.ANALOG.now

unfoldable pub BINARY : List Row
BINARY = map (λ r. (r.0, r.1.now)) code.BINARY.now

unfoldable pub POINT : List Row
POINT = map (λ r. (r.0, r.1.now)) code.POINT.now

unfoldable pub DEVICE : List Row
DEVICE = map (λ r. (r.0, r.1.now)) code.DEVICE.now

unfoldable pub WRITTEN_FILE : List Row
WRITTEN_FILE = map (λ r. (r.0, r.1.now)) code.WRITTEN_FILE.now

unfoldable pub READ_FILE : List Row
READ_FILE = map (λ r. (r.0, r.1.now)) code.READ_FILE.now

-- what is required of an object of a type, and of a file that clients may or may not write: analog, binary with a polarity, other points, devices and files
abbrev pub rows_of : (kind : ℕ) → (written : Bool) → List Row
rows_of kind written =
    if nat_le kind 2 then ANALOG
    else (if (kind == 3) || (kind == 4) then BINARY
    else (if (kind == 5) || ((kind == 13) || ((kind == 14) || (kind == 19))) then POINT
    else (if kind == 8 then DEVICE else (if kind == 10 then (if written then WRITTEN_FILE else READ_FILE) else []))))

abbrev pub standard_property : Row → Result Property Problem
standard_property r = whole_data r.1 (data_of r.1) >>= (λ values. Ok (property_with r.0 false values))

-- the properties, with one more if they lack it
abbrev pub with_row : List Property → Row → Result (List Property) Problem
with_row ps r = if has_number r.0 ps then Ok ps else (standard_property r >>= (λ p. Ok (ps ++ p ∷ [])))

abbrev pub with_rows : List Property → List Row → Result (List Property) Problem
with_rows ps [] = Ok ps
with_rows ps (r ∷ rows) = with_row ps r >>= (λ more. with_rows more rows)
