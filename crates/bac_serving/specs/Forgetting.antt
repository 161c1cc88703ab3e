-- What `keep --forget` forgets, and its statuses.
use Rattle.std.specs.Prelude.{◌≡◌, ℕ, Bool, List, Option, IsSome, None, Some}
use Rattle.std.specs.Io.KnownBytes.{Keeps}
use Rattle.sqlite_trees.specs.Tree.{Trees}
use Rattle.sqlite_trees.specs.View.{IsClean, View}
use Rattle.bac_value.specs.Views.{object_identifier_view}
use Rattle.bac_value_text.specs.Reading.{object_of, property_of}
use Rattle.bac_keep_file.specs.Rows.{cells_of}
use Rattle.bac_keep_file.specs.Forgotten.{is_selected, without}
use Rattle.bac_keep_file.specs.declared.selection.Selection.{Selection}
use Rattle.bac_text.specs.declared.status.Status.{Status}
use Rattle.bac_commands.specs.Statuses.{ByStatus}

abbrev pub IsPropertyOf : (word : Option (List ℕ)) → (property : Option ℕ) → Type 0
IsPropertyOf None property = property ≡ None
IsPropertyOf (Some word) property = (property ≡ property_of word) × IsSome property

-- the words name an object, and a property where one is given
pub record Names (object : List ℕ) (property : Option (List ℕ)) (s : Selection) : Type 0 where
  pub object_is : object_of object ≡ Some (object_identifier_view s.object)
  pub property_is : IsPropertyOf property s.property

-- a database that the machine opened at a path, and that is so in the end: as long as it is honest, it was so at first, what it has committed is what it had
-- committed then but the cells of the selection, and the next start finds those, whatever a power cut leaves
pub record OnForgotten {D : Type 0} (IsDatabase : (path : List ℕ) → (is_new : Bool) → D → Type 0) (view : D → View) (recovers : D → Trees → Type 0)
    (path : List ℕ) (s : Selection) : Type 0 where
  pub is_new : Bool
  pub opened : D
  pub made : IsDatabase path is_new opened
  pub ended : D
  pub honest : IsClean (view ended) → IsClean (view opened)
  pub forgot : IsClean (view ended)
      → cells_of (view ended).committed ≡ without (is_selected (object_identifier_view s.object) s.property) (cells_of (view opened).committed)
  pub found : IsClean (view ended) → (db : Trees) → recovers ended db → cells_of db ≡ cells_of (view ended).committed

-- What follows takes such a relation.
abbrev pub Forgettings : Type 1
Forgettings = (path : List ℕ) → Selection → Type 0

pub record Forgets (IsOnForgotten : Forgettings) (path object : List ℕ) (property : Option (List ℕ)) : Type 0 where
  pub selection : Selection
  pub named : Names object property selection
  pub forgot : IsOnForgotten path selection

-- where the command line is refused, nothing was printed
abbrev pub IsForgotten : Forgettings → Status → (path object : List ℕ) → (property : Option (List ℕ)) → (old new : Option (List ℕ)) → Type 0
IsForgotten IsOnForgotten s path object property old new = ByStatus s (Forgets IsOnForgotten path object property) ⊥ (Keeps old new)
