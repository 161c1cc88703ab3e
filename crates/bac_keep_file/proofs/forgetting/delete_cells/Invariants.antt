use Rattle.std.proofs.Common.{take}
use Rattle.bac_keep_file.proofs.Leaving.{IsDeleting}
use Rattle.bac_keep_file.proofs.forgetting.delete_cells.Given as goal

abbrev pub invariant-loop-at : goal.invariant-loop-at
invariant-loop-at g l = IsDeleting g.S.Store.view g.S.Store.recovers (take l.at l.cells) l.initial.database l.database
