use Rattle.bac_keep_file.proofs.RowReading.{IsReading}
use Rattle.bac_keep_file.proofs.reading.read_cells.Given as goal

abbrev pub invariant-loop : goal.invariant-loop
invariant-loop g l = IsReading g.S.Store.view g.S.Store.faults g.S.Store.recovers l.fn.database l.cells.items l.database
