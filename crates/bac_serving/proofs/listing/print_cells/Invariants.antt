-- What is printed of the cells that are left completes what is printed of all.
use Rattle.std.proofs.Common.{ℕ, List, Option, length}
use Rattle.bac_serving.specs.Listing.{AreListed, line_in}
use Rattle.bac_text.specs.Texts.{AppendsText}
use Rattle.bac_serving.proofs.listing.print_cells.Given as goal

abbrev pub invariant-loop-rest : goal.invariant-loop-rest
invariant-loop-rest g l = (end : Option (List ℕ)) → AppendsText (g.O.Write.contents l.out) end (AreListed (line_in l.form) l.rest)
    → AppendsText (g.O.Write.contents l.fn.out) end (AreListed (line_in l.form) l.fn.cells)

abbrev pub decreases-loop-rest : goal.decreases-loop-rest
decreases-loop-rest g l = length l.rest
