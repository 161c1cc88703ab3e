use Rattle.std.proofs.Common.{rules, ◌≡◌, length}
use Rattle.bac_keep_file.proofs.Leaving.{empty_table}
use Rattle.bac_keep_file.proofs.table.read_back.Goals as goal

pub returns-then-is_empty-clause-empty : goal.returns-then-is_empty-clause-empty
returns-then-is_empty-clause-empty g c = λ clean.
    let kept = c.in-Ok.ensures in
    let none : length c.in-Ok.cells.items ≡ 0 = search rules in
    let ready = kept.ready clean in
    record {
      ready = ready;
      empty = empty_table (g.S.Store.view c.args.database.now).committed (g.S.Store.view c.kept_cells.new.database).committed c.in-Ok.cells.items none
          (kept.cells clean) (kept.committed clean ready.is_open);
    }
