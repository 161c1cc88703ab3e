-- The rows of the table, and the cells that they are.
use Rattle.std.specs.Prelude.{◌≡◌, ℕ, pos, List, [], ◌∷◌, Some, None, if◌then◌else◌}
use Rattle.sqlite_value.specs.declared.value.Value.TheVariants.{Int, Blob}
use Rattle.sqlite_value.specs.Order.{Row, column, bytes}
use Rattle.sqlite_trees.specs.Tree.{Trees, has_rowid, rowid}
use Rattle.bac_keep.specs.declared.cell.Cell.{Cell}
use Rattle.bac_keep.specs.Cells.{Cells}

-- the row of a cell: its place, and its octets in the third column; other columns are for people
pub record IsRowOf (place : ℕ) (octets : List ℕ) (r : Row) : Type 0 where
  pub keyed : rowid r ≡ Int (pos place)
  pub holds : column r 2 ≡ Blob octets

-- what the rows have: of each place the first
abbrev pub found : List Row → Cells
found [] place = None
found (r ∷ rs) place = if has_rowid (pos place) r then Some (bytes (column r 2)) else found rs place

-- the cells of a database
abbrev pub cells_of : Trees → Cells
cells_of trees = found (trees 0)

-- the rows of these cells, in the same order
abbrev pub AreCells : List Row → List Cell → Type 0
AreCells [] [] = Unit {0}
AreCells [] (c ∷ cs) = ⊥
AreCells (r ∷ rs) [] = ⊥
AreCells (r ∷ rs) (c ∷ cs) = IsRowOf c.place c.octets.items r × AreCells rs cs
