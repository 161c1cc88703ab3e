use Rattle.std.proofs.Common.{rules, arith, ◌≡◌, ◌∙◌, ap, sym}
use Rattle.sqlite_trees.specs.Tree.{Trees}
use Rattle.sqlite_trees.specs.View.{IsClean}
use Rattle.sqlite_disk.specs.Disk.{MoreFaults}
use Rattle.bac_keep.specs.Overlay.{overlay}
use Rattle.bac_keep.specs.Held.{IsRising, held}
use Rattle.bac_keep.specs.Refused.{IsUnfit}
use Rattle.bac_keep_file.specs.Refused.{IsRefused}
use Rattle.bac_keep_file.specs.Rows.{cells_of}
use Rattle.bac_keep_file.specs.Steps.{store_over}
use Rattle.bac_keep.proofs.Refusals.{passed_on}
use Rattle.bac_keep_file.proofs.RisingRows.{opened, read_rising}
use Rattle.bac_keep_file.proofs.Starts.{unfit, unreadable}
use Rattle.bac_keep_file.proofs.cells.found_store.Goals as goal

pub returns-clause-found : goal.returns-clause-found
returns-clause-found g c = λ clean.
    let read = c.in_ok-cells.ensures.read clean in
    let made = c.in_ok-make_ready.ensures in
    let before : IsClean (g.S.Store.view c.make_ready.new.database) = omega (arith, clean, c.in_ok-cells.ensures.quiet.clean) in
    let restored : IsRising c.in_ok-cells.cells.items → c.in_ok-store.store ≡ overlay (held c.in_ok-cells.cells.items) c.args.document.now = search rules in
    let is = opened (g.S.Store.view c.make_ready.new.database) c.in_ok-cells.cells.items c.args.document.now c.in_ok-store.store (made.ready before)
    (g.met.S.Store.ordered c.make_ready.new.database) read.are restored in
    record {
      ready = read.ready;
      kept = ap (store_over c.args.document.now) (read.committed ∙ made.committed before (made.ready before).is_open ∙ sym (made.trees before)) ∙ sym is;
      noted = ap (store_over c.args.document.now) read.trees ∙ sym is;
      found = is ∙ ap (store_over c.args.document.now) (made.trees before);
    }

pub returns-in_err-store-clause-refused : goal.returns-in_err-store-clause-refused
returns-in_err-store-clause-refused g c =
    passed_on (λ e. IsClean (g.S.Store.view c.read_cells.new.database) → IsRefused c.args.document.now (g.S.Store.view c.args.database.now)
    (g.S.Store.view c.read_cells.new.database) (MoreFaults (g.S.Store.faults c.args.database.now) (g.S.Store.faults c.read_cells.new.database)) e) _
    c.from_residual-in_err-store.result c.from_residual-in_err-store.ensures.1 (λ clean.
    let read = c.in_ok-cells.ensures.read clean in
    let made = c.in_ok-make_ready.ensures in
    let before : IsClean (g.S.Store.view c.make_ready.new.database) = omega (arith, clean, c.in_ok-cells.ensures.quiet.clean) in
    let rises = read_rising (g.S.Store.view c.make_ready.new.database) c.in_ok-cells.cells.items (made.ready before)
    (g.met.S.Store.ordered c.make_ready.new.database) read.are in
    let same : held c.in_ok-cells.cells.items ≡ cells_of (g.S.Store.view c.args.database.now).committed =
    rises.1 ∙ ap (λ (db : Trees). cells_of db) (made.trees before) in
    let unfitting : IsUnfit c.args.document.now (held c.in_ok-cells.cells.items) c.in_err-store.field-0.0 = search rules in
    unfit c.args.document.now (g.S.Store.view c.args.database.now) (g.S.Store.view c.read_cells.new.database) _ (held c.in_ok-cells.cells.items) same _ unfitting)

pub returns-in_err-cells-clause-refused : goal.returns-in_err-cells-clause-refused
returns-in_err-cells-clause-refused g c =
    passed_on (λ e. IsClean (g.S.Store.view c.read_cells.new.database) → IsRefused c.args.document.now (g.S.Store.view c.args.database.now)
    (g.S.Store.view c.read_cells.new.database) (MoreFaults (g.S.Store.faults c.args.database.now) (g.S.Store.faults c.read_cells.new.database)) e) _
    c.from_residual-in_err-cells.result c.from_residual-in_err-cells.ensures.1 (λ clean.
    let made = c.in_ok-make_ready.ensures in
    let before : IsClean (g.S.Store.view c.make_ready.new.database) = omega (arith, clean, c.in_err-cells.ensures.quiet.clean) in
    unreadable c.args.document.now (g.S.Store.view c.args.database.now) (g.S.Store.view c.read_cells.new.database)
    _ _ (λ failed. omega (arith, failed, made.quiet.counts)) ((g.S.Store.view c.make_ready.new.database).trees 0) (ap (λ (db : Trees). db 0) (made.trees before)) _
    (c.in_err-cells.ensures.refused clean))
