use Rattle.std.proofs.Common.{rules, arith, ◌≡◌, ℤ, pos, subst, of_z, to_z, w64}
use Rattle.sqlite_trees.specs.Tree.{without_rowid}
use Rattle.sqlite_trees.specs.View.{IsClean, SetsTree}
use Rattle.bac_keep_file.proofs.Deleting.{deletes}
use Rattle.bac_keep_file.proofs.Faults.{on_ok}
use Rattle.bac_keep_file.proofs.forgetting.delete_cell.Goals as goal

pub returns-clause-deleted : goal.returns-clause-deleted
returns-clause-deleted g c = λ clean.
    let before : IsClean (g.S.Store.view c.args.database.now) = omega (arith, clean, c.delete.ensures.quiet.clean) in
    let key : to_z w64 (of_z w64 c.in-Ok.key) ≡ pos c.args.place = search rules in
    deletes _ _ c.args.place (c.requires before) (g.met.S.Store.ordered c.args.database.now)
    (subst (λ (z : ℤ). SetsTree (g.S.Store.view c.args.database.now) (g.S.Store.view c.delete.new.self) 0 (without_rowid z)) key
    (on_ok _ c.in_ok-map_err.ensures.variant c.delete.ensures.ok clean))
