use Rattle.bac_serving.specs.Listing.{line_in}
use Rattle.bac_serving.proofs.Listed.{cell_more, cells_listed}
use Rattle.bac_serving.proofs.listing.print_cells.Goals as goal

pub loop-rest-preserved : goal.loop-rest-preserved
loop-rest-preserved g c =
    λ end h. c.loop-rest.invariant end (cell_more (line_in c.args.form) c.loop-rest.rest.now c.cell-item.result c.in-len1-up.len_at_least c.cell-item.is _ _ end
    c.in_ok-print_cell.ensures h)

pub returns : goal.returns
returns g c =
    cells_listed _ (line_in c.args.form) c.args.cells.now c.loop-rest.rest.now _ _ _ c.in_default.len_below c.flush.ensures.bytes c.loop-rest.invariant
