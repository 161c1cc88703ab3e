-- The properties and the contents of a file of an object in a document (clause 12).
use Rattle.std.specs.Prelude.{ℕ, nat_lt, ◌==◌, Bool, true, false, List, [], ◌∷◌, length, if◌then◌else◌, Option, Result, Ok, Err}
use Rattle.bac_value_text.specs.Reading.{property_of as property_word}
use Rattle.bac_value.specs.declared.fault.FaultKind.{FaultKind}
use Rattle.bac_value.specs.Reading.{data_of}
use Rattle.bac_value.specs.Steps.{◌>>=◌}
use Rattle.bac_value.specs.Writing.{value_spelling}
use Rattle.bac_store.specs.Limits.{BINARY_VALUE, DESCRIPTION, FILE_LIMIT, VALUE_LIMIT}
use Rattle.bac_store.specs.Objects.{are_right_values, is_right_number}
use Rattle.bac_store.specs.Allowing.{Allowed}
use Rattle.bac_store.specs.Kinds.{kind_of}
use Rattle.bac_store.specs.Stores.{Property, File, is_number}
use Rattle.toml.specs.Data.{Data}
use Rattle.bac_point_text.specs.Enumerations.{Names}
use Rattle.bac_objects.specs.Held.{FILE_FORMS, held_in, held_named}
use Rattle.bac_objects.specs.Identifiers.{or_other}
use Rattle.bac_objects.specs.Names.{names_of}
use Rattle.bac_objects.specs.Reading.{other, text_of, too_long}
use Rattle.bac_objects.specs.Values.{hex_of, value_of}
use Rattle.bac_objects.specs.declared.form.Kind.TheVariants.{Real, Text}
use Rattle.bac_objects.specs.declared.form.ValueForm.{ValueForm}
use Rattle.bac_objects.specs.declared.form.ValueForm.TheVariants.{Value, Hex}
use Rattle.bac_objects.specs.declared.problem.Problem.{Problem}
use Rattle.bac_objects.specs.declared.problem.Wanted.{Wanted}
use Rattle.bac_objects.specs.declared.problem.Wanted.TheVariants as wanted
use Rattle.bac_objects.specs.declared.problem.Given.{Given}
use Rattle.bac_objects.specs.declared.problem.Given.TheVariants as given

-- ---- which property a key identifies: by its name in the standard, or by its number

abbrev pub served : ℕ → Result ℕ Problem
served n = if is_right_number n then Ok n else Err (other wanted.Property)

-- a property that can be listed
abbrev pub property_number : List ℕ → Result ℕ Problem
property_number key = or_other wanted.Property (property_word key) >>= served

-- ---- its values

abbrev pub whole_data : List ℕ → Result (List ℕ) FaultKind → Result (List ℕ) Problem
whole_data octets (Ok []) = Ok octets
whole_data octets (Ok (o ∷ rest)) = Err (other wanted.Spelling)
whole_data octets (Err e) = Err (other wanted.Spelling)

-- an encoded value of that kind, or octets that encode data (clause 20.2)
abbrev pub spelling_of : Option Names → ValueForm → Data → Result (List ℕ) Problem
spelling_of names (Value k) d = value_of names k d >>= (λ v. Ok (value_spelling v))
spelling_of names Hex d = hex_of d >>= (λ octets. whole_data octets (data_of octets))

-- what is expected as values of a property of an object type
abbrev pub wanted_at : (kind number : ℕ) → Wanted
wanted_at kind number =
    if number == DESCRIPTION then wanted.Kind Text else (if kind == BINARY_VALUE then wanted.State else wanted.Kind Real)

abbrev pub given_as : ValueForm → Given
given_as (Value k) = given.Kind k
given_as Hex = given.Hex

abbrev pub right_at : (kind number : ℕ) → ValueForm → List ℕ → Result (List ℕ) Problem
right_at kind number form values =
    if nat_lt VALUE_LIMIT (length values) then Err too_long
    else (if are_right_values kind number values then Ok values else Err (record { wanted = wanted_at kind number; given = given_as form }))

abbrev pub property_with : (number : ℕ) → (writable : Bool) → (values : List ℕ) → Property
property_with number writable values = record { number = number; values = values; writable = writable; kind = kind_of values; allowed = Allowed.Any }

-- the property of an object of this type
unfoldable pub property_of : (kind : ℕ) → (key : List ℕ) → Data → Result Property Problem
property_of kind key d = do
  number ← property_number key
  held ← held_named (names_of kind number) d
  values ← spelling_of (names_of kind number) held.form held.value
  values ← right_at kind number held.form values
  Ok (property_with number held.writable values)

abbrev pub has_number : ℕ → List Property → Bool
has_number n [] = false
has_number n (p ∷ ps) = if is_number n p then true else has_number n ps

abbrev pub not_yet : List Property → Property → Result Property Problem
not_yet done p = if has_number p.number done then Err (record { wanted = wanted.OwnProperty; given = given.Again }) else Ok p

-- a property that the object does not have so far
abbrev pub own_property : (kind : ℕ) → List Property → (key : List ℕ) → Data → Result Property Problem
own_property kind done key d = property_of kind key d >>= not_yet done

-- ---- the octets of a file

abbrev pub content_of : ValueForm → Data → Result (List ℕ) Problem
content_of Hex d = hex_of d
content_of (Value k) d = text_of wanted.Text d

abbrev pub short : List ℕ → Result (List ℕ) Problem
short octets = if nat_lt FILE_LIMIT (length octets) then Err (record { wanted = wanted.ShortFile; given = given.More }) else Ok octets

unfoldable pub file_of : Data → Result File Problem
file_of d = do
  held ← held_in FILE_FORMS d
  octets ← content_of held.form held.value
  octets ← short octets
  Ok (record { octets = octets; writable = held.writable })
