use Rattle.std.proofs.Common.{rules, arith, ◌≡◌, ◌+◌, List, [], ◌∷◌, ◌++◌, get_or, take, sym, subst}
use Rattle.std.proofs.lemmas.List.{take_more}
use Rattle.sqlite_trees.specs.View.{IsClean}
use Rattle.bac_keep.specs.declared.cell.Cell.{Cell}
use Rattle.bac_keep_file.specs.Rows.{cells_of}
use Rattle.bac_keep_file.specs.Steps.{HasCells}
use Rattle.bac_keep_file.specs.Forgotten.{has_place, without}
use Rattle.bac_keep_file.proofs.Leaving.{and_then}
use Rattle.bac_keep_file.proofs.forgetting.delete_cells.Goals as goal

pub loop-at-preserved : goal.loop-at-preserved
loop-at-preserved g c = record {
  clean = omega (arith, c.loop-at.invariant.clean, c.in_ok-delete_cell.ensures.clean);
  deleted = λ clean.
      let before : IsClean (g.S.Store.view c.loop-at.database) = omega (arith, clean, c.in_ok-delete_cell.ensures.clean) in
      let cells = c.args.cells.now in
      let cell = get_or cells c.loop-at.at c.index-cells-at.result in
      let next : take (c.loop-at.at + 1) cells ≡ take c.loop-at.at cells ++ cell ∷ [] =
      take_more cells c.loop-at.at c.index-cells-at.result (search rules) in
      subst (λ (cs : List Cell). HasCells (g.S.Store.view c.args.database.now)
      (without (has_place cs) (cells_of (g.S.Store.view c.args.database.now).trees)) (g.S.Store.view c.delete_cell.new.database)) (sym next)
      (and_then _ _ _ (take c.loop-at.at cells) cell (c.loop-at.invariant.deleted before) (c.in_ok-delete_cell.ensures.deleted clean));
  crash = λ db left. c.loop-at.invariant.crash db (c.in_ok-delete_cell.ensures.crash db left);
}
