-- What is kept and has no effect, since the document has no place for it.
use Rattle.std.specs.Prelude.{◌≡◌, Bool, false, not, List, [], ◌∷◌, ◌++◌, filter}
use Rattle.bac_value.specs.Views.{object_identifier_view}
use Rattle.bac_store.specs.Stores.{Store}
use Rattle.bac_store.specs.Writes.{file_at, listed_at}
use Rattle.sqlite_value.specs.Order.{Row}
use Rattle.sqlite_trees.specs.View.{IsClean, View}
use Rattle.bac_keep.specs.declared.cell.Cell.{Cell}
use Rattle.bac_keep.specs.declared.part.Part.{Part}
use Rattle.bac_keep.specs.declared.part.Part.TheVariants as part
use Rattle.bac_keep.specs.Parts.{IsSmall, place_for}
use Rattle.bac_keep.specs.Restored.{is_writable_file, is_writable_value}
use Rattle.bac_keep_file.specs.Rows.{AreCells}

-- the document has the property, or the file, and it may be written
abbrev pub has_place : Store → Part → Bool
has_place s (part.Values id n) = is_writable_value (listed_at s (object_identifier_view id) n)
has_place s (part.Count id) = is_writable_file (file_at s (object_identifier_view id))
has_place s (part.Chunk id k) = is_writable_file (file_at s (object_identifier_view id))

-- it has no place; of a file only the number of its chunks is told
abbrev pub is_told : Store → Part → Bool
is_told s (part.Values id n) = not (has_place s (part.Values id n))
is_told s (part.Count id) = not (has_place s (part.Count id))
is_told s (part.Chunk id k) = false

-- what each of these cells is for, in the same order
abbrev pub AreFor : List Cell → List Part → Type 0
AreFor [] [] = Unit {0}
AreFor [] (p ∷ ps) = ⊥
AreFor (c ∷ cs) [] = ⊥
AreFor (c ∷ cs) (p ∷ ps) = (c.place ≡ place_for p) × IsSmall p × AreFor cs ps

-- those parts that are told of these cells, in the same order
pub record AreIdle (document : Store) (cells : List Cell) (idle : List Part) : Type 0 where
  pub all : List Part
  pub are : AreFor cells all
  pub is : idle ≡ filter (is_told document) all

-- one more cell, which is told if it has no place
pub record TellsOne (document : Store) (cell : Cell) (old new : List Part) : Type 0 where
  pub part : Part
  pub place : cell.place ≡ place_for part
  pub small : IsSmall part
  pub is : new ≡ old ++ filter (is_told document) (part ∷ [])

-- the same of the rows of the table
pub record AreIdleRows (document : Store) (rows : List Row) (idle : List Part) : Type 0 where
  pub cells : List Cell
  pub are : AreCells rows cells
  pub told : AreIdle document cells idle

-- of a database before and after it is read, unless a wrong answer of the disk was taken as true
abbrev pub TellsIdle : Store → (old new : View) → List Part → Type 0
TellsIdle document old new idle = IsClean new → AreIdleRows document (old.trees 0) idle
