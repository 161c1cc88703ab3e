-- The database that was opened is the one that forgot.
use Rattle.bac_serving.proofs.Forgot.{forgot_so}
use Rattle.bac_serving.proofs.forgetting.forget_kept.Goals as goal

pub returns-in-Ok-print_cells-clause-forgotten : goal.returns-in-Ok-print_cells-clause-forgotten
returns-in-Ok-print_cells-clause-forgotten g c =
    forgot_so g.M.Databases.is_database g.M.Database.Store.view g.M.Database.Store.recovers g.met.M.Database.Store.settled _ _ _ c.in-Ok.selection
    c.in-Ok-open_kept.opened.1 c.in-Ok-open_kept.opened.0 c.forget.new.database c.in-Ok.ensures c.in-Ok-open_kept.ensures.opened c.forget.ensures.clean c.in-Ok-forget.ensures.ready
    c.in-Ok-forget.ensures.forgot
