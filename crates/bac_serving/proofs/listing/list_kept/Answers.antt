-- What is printed is of the database that was opened.
use Rattle.bac_serving.proofs.Listed.{listed_so}
use Rattle.bac_serving.proofs.listing.list_kept.Goals as goal

pub returns-in-Ok-print_cells-clause-printed : goal.returns-in-Ok-print_cells-clause-printed
returns-in-Ok-print_cells-clause-printed g c =
    listed_so g.M.Databases.is_database g.M.Database.Store.view c.args.form c.args.path.now c.in-Ok.opened.1 c.in-Ok.opened.0
    c.kept_cells.new.database _ _ _ _ c.in-Ok.ensures.opened c.kept_cells.ensures.clean c.in-Ok-kept_cells.ensures.cells c.deref.ensures.value
    c.in-Ok-print_cells.ensures
