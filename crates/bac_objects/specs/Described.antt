-- Documents that say `described = true`: objects of any type, with any properties and with limits.
use Rattle.std.specs.Prelude.{ℕ, ◌+◌, ◌==◌, Bool, true, false, List, [], ◌∷◌, ◌++◌, length, codes, is_some, if◌then◌else◌, Option, Some, None, Result, Ok, Err}
use Rattle.bac_value_text.specs.Reading.{property_of as property_word}
use Rattle.bac_value.specs.Steps.{◌>>=◌}
use Rattle.bac_value.specs.Value.{ObjectId}
use Rattle.bac_store.specs.Allowing.{Allowed}
use Rattle.bac_store.specs.Kinds.{kind_of}
use Rattle.bac_store.specs.Stores.{File, Object, Property}
use Rattle.bac_point_text.specs.Enumerations.{Names}
use Rattle.toml.specs.Data.{Data, Items, no_items, item, Members, no_members, member, as_bool, get_member}
use Rattle.bac_objects.specs.Consistency.{consistent, fitting_values}
use Rattle.bac_objects.specs.Held.{DESCRIBED_LIMIT, FORMS, count, found_in, mark_of, object_table, the_mark}
use Rattle.bac_objects.specs.Held.{or_nothing as or_no_value}
use Rattle.bac_objects.specs.Identifiers.{or_nothing, or_other, the_instance, the_type}
use Rattle.bac_objects.specs.Objects.{Fault, Flaw, at, file_in, in_object, is_reserved, name_in}
use Rattle.bac_objects.specs.Names.{is_bare, names_of}
use Rattle.bac_objects.specs.Properties.{property_with, spelling_of}
use Rattle.bac_objects.specs.Reading.{array_of, other, table_of}
use Rattle.bac_objects.specs.Standard.{is_written, rows_of, with_rows}
use Rattle.bac_objects.specs.States.{limited}
use Rattle.bac_objects.specs.declared.form.Kind.TheVariants.{Enumerated}
use Rattle.bac_objects.specs.declared.form.ValueForm.{ValueForm}
use Rattle.bac_objects.specs.declared.form.ValueForm.TheVariants.{Value}
use Rattle.bac_objects.specs.declared.problem.Problem.{Problem}
use Rattle.bac_objects.specs.declared.problem.Wanted.TheVariants as wanted
use Rattle.bac_objects.specs.declared.problem.Given.TheVariants as given

-- ---- which documents they are

abbrev pub is_true : Option Bool → Bool
is_true (Some b) = b
is_true None = false

abbrev pub says_true : Option Data → Bool
says_true (Some d) = is_true (as_bool d)
says_true None = false

abbrev pub is_described : Members → Bool
is_described ms = says_true (get_member (codes "described") ms)

-- ---- limits: `min` and `max`, or `one-of`, in the form of the value

abbrev pub with_spelling : Option Names → ValueForm → List (List ℕ) → Data → Result (List (List ℕ)) Problem
with_spelling names form done d = spelling_of names form d >>= (λ values. Ok (done ++ values ∷ []))

abbrev pub spellings_on : Option Names → ValueForm → List (List ℕ) → Items → Result (List (List ℕ)) Problem
spellings_on names form done no_items = Ok done
spellings_on names form done (item d ds) = with_spelling names form done d >>= (λ more. spellings_on names form more ds)

unfoldable pub between : Option Names → ValueForm → (least greatest : Data) → Result Allowed Problem
between names form a b = do
  least ← spelling_of names form a
  greatest ← spelling_of names form b
  Ok (Allowed.Between least greatest)

unfoldable pub one_of : Option Names → ValueForm → Data → Result Allowed Problem
one_of names form d = do
  ds ← array_of wanted.List d
  listed ← spellings_on names form [] ds
  Ok (Allowed.OneOf listed)

abbrev pub limits_with : Option Names → ValueForm → (least greatest list : Option Data) → Result Allowed Problem
limits_with names form None None None = Ok Allowed.Any
limits_with names form (Some a) (Some b) None = between names form a b
limits_with names form None None (Some d) = one_of names form d
limits_with names form None (Some b) list = Err (other wanted.Limits)
limits_with names form (Some a) None list = Err (other wanted.Limits)
limits_with names form (Some a) (Some b) (Some d) = Err (other wanted.Limits)

abbrev pub limits_in : Option Names → ValueForm → Members → Result Allowed Problem
limits_in names form ms = limits_with names form (get_member (codes "min") ms) (get_member (codes "max") ms) (get_member (codes "one-of") ms)

abbrev pub one_if : Option Data → ℕ
one_if d = if is_some d then 1 else 0

-- the value, the flag and the limits
abbrev pub its_own : Members → ℕ
its_own ms =
    1 + one_if (the_mark ms) + one_if (get_member (codes "min") ms) + one_if (get_member (codes "max") ms)
    + one_if (get_member (codes "one-of") ms)

abbrev pub no_more : Members → Allowed → Result Allowed Problem
no_more ms allowed = if count ms == its_own ms then Ok allowed else Err (record { wanted = wanted.LimitedValue; given = given.More })

-- ---- a property of any number

-- the name of its value alone, which is not writable
abbrev pub named_property : (number : ℕ) → Option Names → Data → Result Property Problem
named_property number names d = spelling_of names (Value Enumerated) d >>= (λ values. Ok (property_with number false values))

-- a table with its values
unfoldable pub tabled_property : (number : ℕ) → Option Names → Data → Result Property Problem
tabled_property number names d = do
  ms ← table_of wanted.Value d
  writable ← mark_of (the_mark ms)
  found ← or_no_value (found_in FORMS ms)
  values ← spelling_of names found.0 found.1
  values ← fitting_values number found.0 values
  allowed ← limits_in names found.0 ms
  allowed ← no_more ms allowed
  Ok (record { number = number; values = values; writable = writable; kind = kind_of values; allowed = allowed })

abbrev pub numbered_property : (number : ℕ) → Option Names → Data → Result Property Problem
numbered_property number names d = if is_bare names d then named_property number names d else tabled_property number names d

-- a property of an object of this type
unfoldable pub property_of : (kind : ℕ) → (key : List ℕ) → Data → Result Property Problem
property_of kind key d = do
  number ← or_other wanted.AnyProperty (property_word key)
  numbered_property number (names_of kind number) d

-- ---- an object of any type

unfoldable pub identifier_in : Members → Result ObjectId Flaw
identifier_in ms = do
  kind ← at None (codes "type") (the_type wanted.ObjectType ms)
  instance ← at None (codes "instance") (the_instance 4194302 wanted.Instance ms)
  Ok (record { kind = kind; instance = instance })

abbrev pub with_property : ObjectId → List Property → (key : List ℕ) → Data → Result (List Property) Flaw
with_property id done key d =
    if is_reserved id.kind key then Ok done else at (Some id) key (property_of id.kind key d) >>= (λ p. Ok (done ++ p ∷ []))

-- the properties, in the order of their keys, read after others
abbrev pub properties_on : ObjectId → List Property → Members → Result (List Property) Flaw
properties_on id done no_members = Ok done
properties_on id done (member key d ms) = with_property id done key d >>= (λ more. properties_on id more ms)

-- a name of at least one character (clause 12)
abbrev pub filled : List ℕ → Result (List ℕ) Problem
filled name = if length name == 0 then Err (other wanted.FilledName) else Ok name

abbrev pub filled_name : Members → Result (List ℕ) Problem
filled_name ms = name_in ms >>= filled

-- the properties of an object of this type and a file that may be written or not: within its states, and with those that the standard requires and they lack
abbrev pub completed : (kind : ℕ) → (written : Bool) → List Property → Result (List Property) Problem
completed kind written ps = with_rows (limited kind ps) (rows_of kind written)

-- the properties, which fit together, and those that the standard requires and the table lacks
unfoldable pub all_properties : ObjectId → Option File → Members → Result (List Property) Flaw
all_properties id file ms = do
  properties ← properties_on id [] ms
  properties ← at (Some id) (codes "present-value") (consistent id.kind properties)
  at (Some id) [] (completed id.kind (is_written file) properties)

unfoldable pub object_of : Data → Result Object Flaw
object_of d = do
  ms ← at None [] (object_table d)
  id ← identifier_in ms
  name ← at (Some id) (codes "name") (filled_name ms)
  file ← at (Some id) (codes "file") (file_in id.kind ms)
  properties ← all_properties id file ms
  Ok (record { id = id; name = name; properties = properties; file = file })

-- ---- all objects

abbrev pub with_object : List Object → Data → Result (List Object) Flaw
with_object done d = object_of d >>= (λ o. Ok (done ++ o ∷ []))

-- the objects, in the order of the document, read after others: no more than are needed to refuse them
abbrev pub objects_on : List Object → Items → Result (List Object) Fault
objects_on done no_items = Ok done
objects_on done (item d ds) =
    if length done == DESCRIBED_LIMIT then Ok done else (in_object (length done + 1) (with_object done d) >>= (λ more. objects_on more ds))

abbrev pub both : (keys : ℕ) → Items → Result Items Problem
both keys ds = if keys == 2 then Ok ds else Err (record { wanted = wanted.DescribedObjects; given = given.More })

-- the list under `object`, which is the only key but `described`
abbrev pub list_in : Members → Result Items Problem
list_in ms = or_nothing wanted.DescribedObjects (get_member (codes "object") ms) >>= (λ d. array_of wanted.DescribedObjects d >>= both (count ms))

-- the objects of a document, or the first fault
unfoldable pub objects_in : Members → Result (List Object) Fault
objects_in ms = do
  ds ← in_object 0 (at None (codes "object") (list_in ms))
  objects_on [] ds
