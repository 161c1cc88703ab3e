-- The objects of a document: a list of tables under the key `object` (clause 12).
use Rattle.std.specs.Prelude.{ℕ, ◌+◌, nat_le, ◌==◌, ◌&&◌, ◌||◌, Bool, true, false, List, [], ◌∷◌, ◌++◌, length, codes, if◌then◌else◌, Option, Some, None, Result, Ok, Err}
use Rattle.std.specs.Str.{bytes_eq}
use Rattle.bac_value.specs.Steps.{◌>>=◌}
use Rattle.bac_value.specs.Value.{ObjectId}
use Rattle.bac_store.specs.Limits.{FILE}
use Rattle.bac_store.specs.Objects.{is_right_type}
use Rattle.bac_store.specs.Stores.{File, Object, Property, is_object}
use Rattle.toml.specs.Data.{Data, Items, no_items, item, Members, no_members, member, get_member}
use Rattle.bac_objects.specs.Held.{LISTED_LIMIT, count, count_items, object_table}
use Rattle.bac_objects.specs.Identifiers.{or_nothing, the_instance, the_type}
use Rattle.bac_objects.specs.Properties.{file_of, own_property}
use Rattle.bac_objects.specs.Reading.{array_of, other, table_of, text_of}
use Rattle.bac_objects.specs.declared.problem.Problem.{Problem}
use Rattle.bac_objects.specs.declared.problem.Wanted.TheVariants as wanted
use Rattle.bac_objects.specs.declared.problem.Given.TheVariants as given

-- ---- one object

-- a fault in the table of an object: its key, and the identifier of the object, if type and instance are valid
pub record Flaw : Type 0 where
  pub id : Option ObjectId
  pub key : List ℕ
  pub problem : Problem

abbrev pub at : {A : Type 0} → Option ObjectId → (key : List ℕ) → Result A Problem → Result A Flaw
at id key (Ok x) = Ok x
at id key (Err p) = Err (record { id = id; key = key; problem = p })

abbrev pub served_type : ℕ → Result ℕ Problem
served_type n = if is_right_type n then Ok n else Err (other wanted.ServedType)

abbrev pub kind_in : Members → Result ℕ Problem
kind_in ms = the_type wanted.ServedType ms >>= served_type

-- a type that a store supports, and an instance of one object (clause 20.2.14)
unfoldable pub identifier_in : Members → Result ObjectId Flaw
identifier_in ms = do
  kind ← at None (codes "type") (kind_in ms)
  instance ← at None (codes "instance") (the_instance 4194302 wanted.Instance ms)
  Ok (record { kind = kind; instance = instance })

abbrev pub short_name : List ℕ → Result (List ℕ) Problem
short_name name = if nat_le (length name) 4091 then Ok name else Err (record { wanted = wanted.ShortName; given = given.More })

abbrev pub name_in : Members → Result (List ℕ) Problem
name_in ms = or_nothing wanted.Text (get_member (codes "name") ms) >>= (λ d. text_of wanted.Text d >>= short_name)

-- exactly files have octets
abbrev pub file_in : (kind : ℕ) → Members → Result (Option File) Problem
file_in kind ms =
    if kind == FILE then or_nothing wanted.File (get_member (codes "file") ms) >>= (λ d. file_of d >>= (λ f. Ok (Some f))) else Ok None

-- the keys that are not those of properties
abbrev pub is_reserved : (kind : ℕ) → (key : List ℕ) → Bool
is_reserved kind key =
    bytes_eq key (codes "type") || (bytes_eq key (codes "instance") || (bytes_eq key (codes "name") || ((kind == FILE) && bytes_eq key (codes "file"))))

abbrev pub with_property : ObjectId → List Property → (key : List ℕ) → Data → Result (List Property) Flaw
with_property id done key d =
    if is_reserved id.kind key then Ok done
    else at (Some id) key (own_property id.kind done key d) >>= (λ p. Ok (done ++ p ∷ []))

-- the properties, in the order of their keys, read after others
abbrev pub properties_on : ObjectId → List Property → Members → Result (List Property) Flaw
properties_on id done no_members = Ok done
properties_on id done (member key d ms) = with_property id done key d >>= (λ more. properties_on id more ms)

unfoldable pub object_with : ObjectId → Members → Result Object Flaw
object_with id ms = do
  name ← at (Some id) (codes "name") (name_in ms)
  file ← at (Some id) (codes "file") (file_in id.kind ms)
  properties ← properties_on id [] ms
  Ok (record { id = id; name = name; properties = properties; file = file })

abbrev pub has_id : ObjectId → List Object → Bool
has_id id [] = false
has_id id (o ∷ os) = if is_object id o then true else has_id id os

abbrev pub not_yet : List Object → ObjectId → Result ObjectId Flaw
not_yet done id =
    if has_id id done
    then Err (record { id = Some id; key = codes "instance"; problem = record { wanted = wanted.OwnIdentifier; given = given.Again } })
    else Ok id

-- an identifier that no earlier object has
abbrev pub own_identifier : List Object → Members → Result ObjectId Flaw
own_identifier done ms = identifier_in ms >>= not_yet done

-- an object, read after others
unfoldable pub object_of : List Object → Data → Result Object Flaw
object_of done d = do
  ms ← at None [] (object_table d)
  id ← own_identifier done ms
  object_with id ms

-- ---- all objects

-- a fault in a document: the number of the object, from 1 on, or 0 if it is in none of them
pub record Fault : Type 0 where
  pub object : ℕ
  pub flaw : Flaw

abbrev pub in_object : {A : Type 0} → ℕ → Result A Flaw → Result A Fault
in_object n (Ok x) = Ok x
in_object n (Err f) = Err (record { object = n; flaw = f })

abbrev pub with_object : List Object → Data → Result (List Object) Flaw
with_object done d = object_of done d >>= (λ o. Ok (done ++ o ∷ []))

-- the objects, in the order of the document, read after others
abbrev pub objects_on : List Object → Items → Result (List Object) Fault
objects_on done no_items = Ok done
objects_on done (item d ds) = in_object (length done + 1) (with_object done d) >>= (λ more. objects_on more ds)

abbrev pub alone : (keys : ℕ) → Items → Result Items Problem
alone keys ds = if keys == 1 then Ok ds else Err (record { wanted = wanted.Objects; given = given.More })

abbrev pub few_objects : Items → Result Items Problem
few_objects ds = if nat_le (count_items ds) LISTED_LIMIT then Ok ds else Err (record { wanted = wanted.FewObjects; given = given.More })

-- the list under `object`, which is the only key
abbrev pub list_in : Members → Result Items Problem
list_in ms = or_nothing wanted.Objects (get_member (codes "object") ms) >>= (λ d. array_of wanted.Objects d >>= alone (count ms) >>= few_objects)

-- the objects of a document, or the first fault: objects in the order of the document; in each `type`, `instance`, whether an earlier one has both,
-- `name` and `file`, and then the other keys in the order of their octets
unfoldable pub objects_in : Members → Result (List Object) Fault
objects_in ms = do
  ds ← in_object 0 (at None (codes "object") (list_in ms))
  objects_on [] ds
