-- The values in a document, and the results of readers in code.
use Rattle.std.specs.Prelude.{ℕ, ℤ, pos, negsuc, nat_le, Float, Bool, true, false, List, Option, Some, None, Result, Ok, Err, if◌then◌else◌}
use Rattle.std.specs.Float.{binary64}
use lib.Ieee.{of_int}
use Rattle.bac_value.specs.Steps.{◌>>=◌}
use Rattle.bac_value.specs.Value.{Datum}
use Rattle.toml_datetime.specs.declared.datetime.Datetime.{Datetime}
use Rattle.toml.specs.Data.{Data, string, integer, float, boolean, datetime, array, table, Items, Members, as_str, as_integer, as_bool, as_datetime, as_array, as_table}
use Rattle.bac_objects.specs.declared.problem.Problem.{Problem}
use Rattle.bac_objects.specs.declared.problem.Wanted.{Wanted}
use Rattle.bac_objects.specs.declared.problem.Wanted.TheVariants as wanted
use Rattle.bac_objects.specs.declared.problem.Given.{Given}
use Rattle.bac_objects.specs.declared.problem.Given.TheVariants as given

-- the form of a value, by the types of TOML
abbrev pub given_of : Data → Given
given_of (string s) = given.Text
given_of (integer z) = given.Integer
given_of (float x) = given.Float
given_of (boolean b) = given.Boolean
given_of (datetime dt) = given.DateTime
given_of (array ds) = given.Array
given_of (table ms) = given.Table

abbrev pub in_place : Wanted → Data → Problem
in_place w d = record { wanted = w; given = given_of d }

-- something of the expected form, but not one of the expected values
abbrev pub other : Wanted → Problem
other w = record { wanted = w; given = given.Other }

abbrev pub or_in_place : {A : Type 0} → Wanted → Data → Option A → Result A Problem
or_in_place w d (Some x) = Ok x
or_in_place w d None = Err (in_place w d)

abbrev pub text_of : Wanted → Data → Result (List ℕ) Problem
text_of w d = or_in_place w d (as_str d)

abbrev pub integer_of : Wanted → Data → Result ℤ Problem
integer_of w d = or_in_place w d (as_integer d)

-- a float, or the float of 64 bits that is nearest to an integer
abbrev pub as_number : Data → Option Float
as_number (float x) = Some x
as_number (integer z) = Some (of_int binary64 z)
as_number (string s) = None
as_number (boolean b) = None
as_number (datetime dt) = None
as_number (array ds) = None
as_number (table ms) = None

abbrev pub number_of : Wanted → Data → Result Float Problem
number_of w d = or_in_place w d (as_number d)

abbrev pub boolean_of : Wanted → Data → Result Bool Problem
boolean_of w d = or_in_place w d (as_bool d)

abbrev pub datetime_of : Wanted → Data → Result Datetime Problem
datetime_of w d = or_in_place w d (as_datetime d)

abbrev pub array_of : Wanted → Data → Result Items Problem
array_of w d = or_in_place w d (as_array d)

abbrev pub table_of : Wanted → Data → Result Members Problem
table_of w d = or_in_place w d (as_table d)

abbrev pub up_to : (most : ℕ) → Wanted → ℤ → Result ℕ Problem
up_to most w (pos n) = if nat_le n most then Ok n else Err (other w)
up_to most w (negsuc n) = Err (other w)

-- an integer from 0 to most
unfoldable pub number_up_to : (most : ℕ) → Wanted → Data → Result ℕ Problem
number_up_to most w d = integer_of w d >>= up_to most w

abbrev pub too_long : Problem
too_long = record { wanted = wanted.ShortValue; given = given.More }

-- a value, if its contents are not too long
abbrev pub fitting : Bool → Datum → Result Datum Problem
fitting true v = Ok v
fitting false v = Err too_long
