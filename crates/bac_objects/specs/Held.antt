-- Values in a document: a table with the value under the word of its form, and a flag.
use Rattle.std.specs.Prelude.{ℕ, ◌+◌, nat_le, ◌==◌, Bool, false, List, [], ◌∷◌, map, codes, is_some, if◌then◌else◌, Option, Some, None, Result, Ok, Err}
use Rattle.std.specs.Borrow.{Bor}
use Rattle.bac_value.specs.Steps.{◌>>=◌}
use Rattle.toml.specs.Data.{Data, Items, no_items, item, Members, no_members, member, get_member}
use Rattle.bac_point_text.specs.Enumerations.{Names}
use Rattle.bac_objects.specs.Names.{is_bare}
use Rattle.bac_objects.specs.Reading.{boolean_of, table_of}
use Rattle.bac_objects.specs.declared.form.Kind.TheVariants.{Enumerated}
use Rattle.bac_objects.specs.declared.form.ValueForm.{ValueForm}
use Rattle.bac_objects.specs.declared.form.ValueForm.TheVariants.{Value}
use Rattle.bac_objects.specs.declared.form.TheConstants as code
use Rattle.bac_objects.specs.declared.problem.Problem.{Problem}
use Rattle.bac_objects.specs.declared.problem.Given.TheVariants as given
use Rattle.bac_objects.specs.declared.problem.Wanted.TheVariants as wanted

-- a word, and the form that it stands for
abbrev pub Row : Type 0
Row = List ℕ × ValueForm

abbrev pub plain : List (Bor (List ℕ) × ValueForm) → List Row
plain rows = map (λ r. (r.0.now, r.1)) rows

-- the words for values of a property, and for the octets of a file
unfoldable pub FORMS : List Row
FORMS = map (λ r. (r.0.now, r.1)) code.FORMS.now

unfoldable pub FILE_FORMS : List Row
FILE_FORMS = map (λ r. (r.0.now, r.1)) code.FILE_FORMS.now

abbrev pub count : Members → ℕ
count no_members = 0
count (member k d ms) = 1 + count ms

abbrev pub count_items : Items → ℕ
count_items no_items = 0
count_items (item d ds) = 1 + count_items ds

-- ---- how much of a document is read

-- the most keys of an object: each property is compared with those before it
abbrev pub KEYS_LIMIT : ℕ
KEYS_LIMIT = 1024

-- the most objects of a document that is not described: each identifier is compared with those before it
abbrev pub LISTED_LIMIT : ℕ
LISTED_LIMIT = 10000

-- how many objects of a document that is described are read: more do not describe a store
abbrev pub DESCRIBED_LIMIT : ℕ
DESCRIBED_LIMIT = 820

abbrev pub few_keys : Members → Result Members Problem
few_keys ms = if nat_le (count ms) KEYS_LIMIT then Ok ms else Err (record { wanted = wanted.FewKeys; given = given.More })

-- the table of an object
abbrev pub object_table : Data → Result Members Problem
object_table d = table_of wanted.Table d >>= few_keys

abbrev pub or_later : ValueForm → Option Data → Option (ValueForm × Data) → Option (ValueForm × Data)
or_later f (Some d) later = Some (f, d)
or_later f None later = later

-- the value under the first of the words that is a key
abbrev pub found_in : List Row → Members → Option (ValueForm × Data)
found_in [] ms = None
found_in (r ∷ rows) ms = or_later r.1 (get_member r.0 ms) (found_in rows ms)

abbrev pub or_nothing : {A : Type 0} → Option A → Result A Problem
or_nothing (Some x) = Ok x
or_nothing None = Err (record { wanted = wanted.OneValue; given = given.Nothing })

-- without the flag nothing is writable
abbrev pub mark_of : Option Data → Result Bool Problem
mark_of None = Ok false
mark_of (Some d) = boolean_of wanted.Mark d

abbrev pub the_mark : Members → Option Data
the_mark ms = get_member (codes "writable") ms

-- the form of a value, the value, and whether it is writable
pub record Held : Type 0 where
  pub form : ValueForm
  pub value : Data
  pub writable : Bool

-- there are no keys but the word and the flag
abbrev pub alone : (is_marked : Bool) → (keys : ℕ) → Held → Result Held Problem
alone is_marked keys h =
    if keys == (if is_marked then 2 else 1) then Ok h else Err (record { wanted = wanted.OneValue; given = given.More })

unfoldable pub held_by : List Row → Members → Result Held Problem
held_by rows ms = do
  writable ← mark_of (the_mark ms)
  found ← or_nothing (found_in rows ms)
  alone (is_some (the_mark ms)) (count ms) (record { form = found.0; value = found.1; writable = writable })

abbrev pub held_in : List Row → Data → Result Held Problem
held_in rows d = table_of wanted.Value d >>= held_by rows

-- the same of a property whose numbers have names: a text is the name of its value, which is not writable
abbrev pub held_named : Option Names → Data → Result Held Problem
held_named names d = if is_bare names d then Ok (record { form = Value Enumerated; value = d; writable = false }) else held_in FORMS d
