use Rattle.std.proofs.Common.{rules, arith, ◌≡◌, subst}
use Rattle.std.proofs.lemmas.Fn.{filter_same}
use Rattle.sqlite_trees.specs.Tree.{Trees}
use Rattle.sqlite_trees.specs.View.{IsClean}
use Rattle.bac_keep_file.specs.Rows.{AreCells}
use Rattle.bac_keep_file.proofs.forgetting.selected_cells.Goals as goal

pub returns-clause-cells : goal.returns-clause-cells
returns-clause-cells g c = λ clean.
    let read = c.in_ok-cells.ensures in
    let first = c.in_ok-make_ready.ensures in
    let at_read : IsClean (g.S.Store.view c.kept_cells.new.database) = omega (arith, clean, c.in_ok-make_ready-2.ensures.quiet.clean) in
    let at_first : IsClean (g.S.Store.view c.make_ready.new.database) = omega (arith, at_read, read.clean) in
    let same : (g.S.Store.view c.make_ready.new.database).committed ≡ (g.S.Store.view c.args.database.now).committed =
    first.committed at_first (first.ready at_first).is_open in
    record {
      all = c.in_ok-cells.cells.items;
      are = subst (λ (t : Trees). AreCells (t 0) c.in_ok-cells.cells.items) same (read.cells at_read);
      is = filter_same _ _ _ (λ x b f' k. search rules) _ _ c.retain.ensures.filtered;
    }
