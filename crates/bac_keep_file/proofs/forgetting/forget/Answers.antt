use Rattle.std.proofs.Common.{rules, arith, ◌≡◌, length, ap, ◌∙◌}
use Rattle.sqlite_trees.specs.Tree.{Trees}
use Rattle.sqlite_trees.specs.View.{IsClean, View}
use Rattle.bac_keep_file.specs.Rows.{cells_of}
use Rattle.bac_keep_file.proofs.Faults.{on_ok}
use Rattle.bac_keep_file.proofs.Leaving.{left_over, nothing_selected, outcome}
use Rattle.bac_keep_file.proofs.forgetting.forget.Goals as goal

pub returns-then-is_empty-clause-forgot : goal.returns-then-is_empty-clause-forgot
returns-then-is_empty-clause-forgot g c = λ clean.
    let selects = c.in_ok-cells.ensures in
    let none : length c.in_ok-cells.cells.items ≡ 0 = search rules in
    ap (λ (t : Trees). cells_of t) (selects.committed clean (selects.ready clean).is_open)
    ∙ nothing_selected _ (g.S.Store.view c.args.database.now).committed c.in_ok-cells.cells.items none (selects.cells clean)

pub returns-clause-forgot : goal.returns-clause-forgot
returns-clause-forgot g c = λ clean.
    let deleted : IsClean (g.S.Store.view c.delete_cells.new.database) = omega (arith, clean, c.commit.ensures.clean) in
    let selected : IsClean (g.S.Store.view c.selected_cells.new.database) = omega (arith, deleted, c.in_ok-delete_cells.ensures.clean) in
    let given : c.deref.result.now ≡ c.in_ok-cells.cells.items = search rules in
    ap (λ (v : View). cells_of v.committed) (on_ok _ c.in_ok-map_err.ensures.variant c.commit.ensures.ok clean).is
    ∙ left_over _ (g.S.Store.view c.args.database.now).committed _ _ _ _ given (c.in_ok-cells.ensures.cells selected) (c.in_ok-cells.ensures.trees selected)
    (c.in_ok-delete_cells.ensures.deleted deleted)

pub returns-clause-crash : goal.returns-clause-crash
returns-clause-crash g c = λ clean db left.
    let deleted : IsClean (g.S.Store.view c.delete_cells.new.database) = omega (arith, clean, c.commit.ensures.clean) in
    let selected : IsClean (g.S.Store.view c.selected_cells.new.database) = omega (arith, deleted, c.in_ok-delete_cells.ensures.clean) in
    let given : c.deref.result.now ≡ c.in_ok-cells.cells.items = search rules in
    outcome db (g.S.Store.view c.delete_cells.new.database).trees _
    (λ before. c.in_ok-cells.ensures.crash db (c.in_ok-delete_cells.ensures.crash db before))
    (left_over _ (g.S.Store.view c.args.database.now).committed _ _ _ _ given (c.in_ok-cells.ensures.cells selected) (c.in_ok-cells.ensures.trees selected)
    (c.in_ok-delete_cells.ensures.deleted deleted))
    (c.commit.ensures.crash db left)

pub returns-in_err-map_err-clause-crash : goal.returns-in_err-map_err-clause-crash
returns-in_err-map_err-clause-crash g c = λ clean db left.
    let deleted : IsClean (g.S.Store.view c.delete_cells.new.database) = omega (arith, clean, c.commit.ensures.clean) in
    let selected : IsClean (g.S.Store.view c.selected_cells.new.database) = omega (arith, deleted, c.in_ok-delete_cells.ensures.clean) in
    let given : c.deref.result.now ≡ c.in_ok-cells.cells.items = search rules in
    outcome db (g.S.Store.view c.delete_cells.new.database).trees _
    (λ before. c.in_ok-cells.ensures.crash db (c.in_ok-delete_cells.ensures.crash db before))
    (left_over _ (g.S.Store.view c.args.database.now).committed _ _ _ _ given (c.in_ok-cells.ensures.cells selected) (c.in_ok-cells.ensures.trees selected)
    (c.in_ok-delete_cells.ensures.deleted deleted))
    (c.commit.ensures.crash db left)
