-- Lists of cells, and what they hold.
use Rattle.std.specs.Prelude.{◌<◌, List, [], ◌∷◌}
use Rattle.std.specs.List.{AllByRecursion}
use Rattle.bac_keep.specs.declared.cell.Cell.{Cell}
use Rattle.bac_keep.specs.Cells.{Cells, with_cell, no_cells}

-- the cells of a list
abbrev pub held : List Cell → Cells
held [] = no_cells
held (c ∷ cs) = with_cell c.place c.octets.items (held cs)

-- each place is above those before it
abbrev pub IsRising : List Cell → Type 0
IsRising [] = Unit {0}
IsRising (c ∷ cs) = AllByRecursion (λ d. c.place < d.place) cs × IsRising cs
