-- What is forgotten of what is kept: the cells at some places.
use Rattle.std.specs.Prelude.{◌≡◌, ℕ, ◌+◌, ◌==◌, ◌&&◌, ◌||◌, ◌⊎◌, Bool, false, nat_le, nat_lt, List, [], ◌∷◌, filter, Option, None, Some, if◌then◌else◌}
use Rattle.sqlite_value.specs.Order.{Row}
use Rattle.sqlite_trees.specs.Tree.{Trees}
use Rattle.sqlite_trees.specs.View.{IsClean, View}
use Rattle.bac_value.specs.Value.{ObjectId}
use Rattle.bac_value.specs.Views.{object_identifier_view}
use Rattle.bac_keep.specs.declared.cell.Cell.{Cell}
use Rattle.bac_keep.specs.Cells.{Cells, NUMBERS, file_place, value_place}
use Rattle.bac_keep_file.specs.declared.selection.Selection.{Selection}
use Rattle.bac_keep_file.specs.Rows.{AreCells, cells_of}

-- one of the places of an object, from the first on
abbrev pub is_from : (first : ℕ) → (q : ℕ) → Bool
is_from first q = nat_le first q && nat_lt q (first + NUMBERS)

-- the place of a property of an object; where none is given, of any of its properties, or of a part of its file
abbrev pub is_selected : ObjectId → (property : Option ℕ) → (q : ℕ) → Bool
is_selected id None q = is_from (value_place id 0) q || is_from (file_place id 0) q
is_selected id (Some n) q = nat_lt n NUMBERS && (q == value_place id n)

abbrev pub is_place : (place : ℕ) → (q : ℕ) → Bool
is_place place q = q == place

-- the place of one of these cells
abbrev pub has_place : List Cell → (q : ℕ) → Bool
has_place [] q = false
has_place (c ∷ cs) q = (q == c.place) || has_place cs q

-- the cells but those at these places
abbrev pub without : (is_gone : ℕ → Bool) → Cells → Cells
without is_gone cells q = if is_gone q then None else cells q

-- the place of what is selected
abbrev pub is_of : Selection → (q : ℕ) → Bool
is_of s = is_selected (object_identifier_view s.object) s.property

-- the cells of a database but those that are selected
abbrev pub cells_left : Selection → Trees → Cells
cells_left s trees = without (is_of s) (cells_of trees)

-- nothing of the selection is kept any more, and all else is, unless a wrong answer of the disk was taken as true
abbrev pub HasForgotten : Selection → (old new : View) → Type 0
HasForgotten s old new = IsClean new → cells_of new.committed ≡ cells_left s old.committed

-- a crash leaves what it could leave before, or nothing of the selection
abbrev pub MayForget : {S : Type 0} → (S → View) → (S → Trees → Type 0) → Selection → S → S → Type 0
MayForget view recovers s old new =
    IsClean (view new) → (db : Trees) → recovers new db → recovers old db ⊎ (cells_of db ≡ cells_left s (view old).committed)

-- those of the cells of these rows that are at such places, in the same order
pub record AreSelected (is_wanted : ℕ → Bool) (rows : List Row) (selected : List Cell) : Type 0 where
  pub all : List Cell
  pub are : AreCells rows all
  pub is : selected ≡ filter (λ c. is_wanted c.place) all
