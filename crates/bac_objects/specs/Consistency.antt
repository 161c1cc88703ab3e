-- What the standard says of the values of some properties in any object, and of the properties of an object together (clause 12).
use Rattle.std.specs.Prelude.{ℕ, nat_lt, ◌==◌, ◌&&◌, Bool, true, false, List, [], ◌∷◌, length, if◌then◌else◌, Option, Some, None, Result, Ok, Err}
use Rattle.bac_value.specs.declared.fault.FaultKind.{FaultKind}
use Rattle.bac_value.specs.declared.tag.Class.{Class}
use Rattle.bac_value.specs.declared.tag.Class.TheVariants.{Application, Context}
use Rattle.bac_value.specs.Element.{Part}
use Rattle.bac_value.specs.Reading.{element_at, number_at}
use Rattle.bac_store.specs.Kinds.{is_analog, is_binary, is_multi_state, is_tag, kind_of}
use Rattle.bac_store.specs.Limits.{ENUMERATED, PRESENT_VALUE, UNSIGNED}
use Rattle.bac_store.specs.Ranks.{number_read}
use Rattle.bac_store.specs.Stores.{Property, is_number}
use Rattle.bac_objects.specs.Properties.{given_as}
use Rattle.bac_objects.specs.Reading.{other}
use Rattle.bac_objects.specs.declared.form.Kind.TheVariants.{Enumerated, Real}
use Rattle.bac_objects.specs.declared.form.ValueForm.{ValueForm}
use Rattle.bac_objects.specs.declared.problem.Problem.{Problem}
use Rattle.bac_objects.specs.declared.problem.Wanted.{Wanted}
use Rattle.bac_objects.specs.declared.problem.Wanted.TheVariants as wanted
use Rattle.bac_objects.specs.declared.problem.Given.TheVariants as given

abbrev pub NUMBER_OF_STATES : ℕ
NUMBER_OF_STATES = 74

abbrev pub UNITS : ℕ
UNITS = 117

-- ---- the number that values are

abbrev pub unsigned_of_class : Class → ℕ → List ℕ → Option ℕ
unsigned_of_class Application k xs = if k == UNSIGNED then number_read (number_at UNSIGNED (length xs) xs) else None
unsigned_of_class Context k xs = None

abbrev pub unsigned_before : Part → List ℕ → Option ℕ
unsigned_before p [] = unsigned_of_class p.mark.class p.mark.number p.contents
unsigned_before p (x ∷ xs) = None

abbrev pub unsigned_read : Result (Part × List ℕ) FaultKind → Option ℕ
unsigned_read (Ok r) = unsigned_before r.0 r.1
unsigned_read (Err e) = None

-- the number of octets that encode one Unsigned; None for all others
abbrev pub unsigned_in : List ℕ → Option ℕ
unsigned_in values = unsigned_read (element_at values)

-- ---- in any object: units are Enumerated, and number-of-states is an Unsigned from 1 on

abbrev pub is_count : Option ℕ → Bool
is_count (Some n) = nat_lt 0 n
is_count None = false

abbrev pub are_fitting : (number : ℕ) → List ℕ → Bool
are_fitting number values =
    if number == UNITS then is_tag ENUMERATED (kind_of values) else (if number == NUMBER_OF_STATES then is_count (unsigned_in values) else true)

abbrev pub wanted_of : (number : ℕ) → Wanted
wanted_of number = if number == UNITS then wanted.Kind Enumerated else wanted.MultiState

abbrev pub fitting_values : (number : ℕ) → ValueForm → List ℕ → Result (List ℕ) Problem
fitting_values number form values =
    if are_fitting number values then Ok values else Err (record { wanted = wanted_of number; given = given_as form })

-- ---- together: the present-value of an analog, binary or multi-state object is there, and one of the states of the latter

-- the values of a property
abbrev pub values_of : (number : ℕ) → List Property → Option (List ℕ)
values_of n [] = None
values_of n (p ∷ ps) = if is_number n p then Some p.values else values_of n ps

abbrev pub is_beyond : (value states : Option ℕ) → Bool
is_beyond (Some value) (Some states) = nat_lt states value
is_beyond (Some value) None = false
is_beyond None states = false

abbrev pub number_in : Option (List ℕ) → Option ℕ
number_in (Some values) = unsigned_in values
number_in None = None

-- what the present-value of an object of this type has to be, where it has to be there
abbrev pub wanted_present : (kind : ℕ) → Option Wanted
wanted_present k =
    if is_analog k then Some (wanted.Kind Real) else (if is_binary k then Some wanted.State else (if is_multi_state k then Some wanted.MultiState else None))

abbrev pub lacking : Option Wanted → Option Problem
lacking (Some w) = Some (record { wanted = w; given = given.Nothing })
lacking None = None

-- what is wrong with the present-value, which may be left out, beside the number of states
abbrev pub present_flaw : (kind : ℕ) → (value states : Option (List ℕ)) → Option Problem
present_flaw k None states = lacking (wanted_present k)
present_flaw k (Some values) states =
    if is_multi_state k && is_beyond (unsigned_in values) (number_in states) then Some (other wanted.NumberedState) else None

-- what is wrong with the present-value among these properties
abbrev pub flaw_in : (kind : ℕ) → List Property → Option Problem
flaw_in k ps = present_flaw k (values_of PRESENT_VALUE ps) (values_of NUMBER_OF_STATES ps)

abbrev pub unless : List Property → Option Problem → Result (List Property) Problem
unless ps None = Ok ps
unless ps (Some p) = Err p

abbrev pub consistent : (kind : ℕ) → List Property → Result (List Property) Problem
consistent k ps = unless ps (flaw_in k ps)
