-- Object types and identifiers in a document (clause 20.2.14).
use Rattle.std.specs.Prelude.{ℕ, ◌==◌, List, codes, nat_le, if◌then◌else◌, Option, Some, None, Result, Ok, Err}
use Rattle.bac_value_text.specs.Names.{number_in}
use Rattle.bac_value_text.specs.ObjectTypes.{OBJECT_TYPES}
use Rattle.bac_value.specs.Steps.{◌>>=◌}
use Rattle.bac_value.specs.Value.{ObjectId}
use Rattle.toml.specs.Data.{Data, Members, get_member, as_str}
use Rattle.bac_objects.specs.Held.{count}
use Rattle.bac_objects.specs.Reading.{number_up_to, other, table_of}
use Rattle.bac_objects.specs.declared.problem.Problem.{Problem}
use Rattle.bac_objects.specs.declared.problem.Wanted.{Wanted}
use Rattle.bac_objects.specs.declared.problem.Wanted.TheVariants as wanted
use Rattle.bac_objects.specs.declared.problem.Given.TheVariants as given

abbrev pub or_nothing : {A : Type 0} → Wanted → Option A → Result A Problem
or_nothing w (Some x) = Ok x
or_nothing w None = Err (record { wanted = w; given = given.Nothing })

abbrev pub or_other : {A : Type 0} → Wanted → Option A → Result A Problem
or_other w (Some x) = Ok x
or_other w None = Err (other w)

abbrev pub at_most : (most : ℕ) → Wanted → ℕ → Result ℕ Problem
at_most most w n = if nat_le n most then Ok n else Err (other w)

-- an object type by its name in the standard
unfoldable pub named : Wanted → List ℕ → Result ℕ Problem
named w name = or_other w (number_in OBJECT_TYPES name) >>= at_most 1023 w

abbrev pub named_or_numbered : Wanted → Data → Option (List ℕ) → Result ℕ Problem
named_or_numbered w d (Some name) = named w name
named_or_numbered w d None = number_up_to 1023 w d

-- an object type by its name, or by its number of 10 bits
abbrev pub type_of : Wanted → Data → Result ℕ Problem
type_of w d = named_or_numbered w d (as_str d)

abbrev pub the_type : Wanted → Members → Result ℕ Problem
the_type w ms = or_nothing w (get_member (codes "type") ms) >>= type_of w

abbrev pub the_instance : (most : ℕ) → Wanted → Members → Result ℕ Problem
the_instance most w ms = or_nothing w (get_member (codes "instance") ms) >>= number_up_to most w

-- a table with only these two keys
abbrev pub alone : (keys : ℕ) → ObjectId → Result ObjectId Problem
alone keys id = if keys == 2 then Ok id else Err (record { wanted = wanted.Identifier; given = given.More })

-- any identifier, from a table with a type and an instance
unfoldable pub identifier_of : Data → Result ObjectId Problem
identifier_of d = do
  ms ← table_of wanted.Identifier d
  kind ← the_type wanted.ObjectType ms
  instance ← the_instance 4194303 wanted.AnyInstance ms
  alone (count ms) (record { kind = kind; instance = instance })
