use Rattle.std.proofs.Common.{arith, ◌≡◌, false, subst, sym}
use Rattle.sqlite_disk.specs.Disk.{MoreFaults}
use Rattle.sqlite_trees.specs.View.{IsClean, IsStorableRow, View}
use Rattle.bac_keep.proofs.Refusals.{passed_on}
use Rattle.bac_keep_file.specs.Refused.{IsUnput}
use Rattle.bac_keep_file.proofs.Causes.{row_stored, unput, unput_later}
use Rattle.bac_keep_file.proofs.Faults.{on_ok}
use Rattle.bac_keep_file.proofs.Puts.{is_row, puts}
use Rattle.bac_keep_file.proofs.putting.put_cell.Goals as goal

pub returns-clause-put : goal.returns-clause-put
returns-clause-put g c = λ clean.
    let before : IsClean (g.S.Store.view c.has_cell.new.database) = omega (arith, clean, c.put.ensures.quiet.clean) in
    let first : IsClean (g.S.Store.view c.args.database.now) = omega (arith, before, c.in_ok-has_cell.ensures.quiet.clean) in
    puts _ _ _ c.args.place c.args.octets.now _ (c.requires.ready first) (g.met.S.Store.ordered c.args.database.now) (c.in_ok-has_cell.ensures.same before)
    (is_row _ _ _ _ _ _ c.in_ok-row.ensures) (on_ok _ c.in_ok-map_err.ensures.variant c.put.ensures.ok clean)

pub returns-in_err-map_err-clause-refused : goal.returns-in_err-map_err-clause-refused
returns-in_err-map_err-clause-refused g c =
    passed_on (λ e. IsClean (g.S.Store.view c.put.new.self) → IsUnput (MoreFaults (g.S.Store.faults c.args.database.now) (g.S.Store.faults c.put.new.self)) e) _
    c.from_residual-in_err-map_err.result c.from_residual-in_err-map_err.ensures.1 (λ clean.
    let before : IsClean (g.S.Store.view c.has_cell.new.database) = omega (arith, clean, c.put.ensures.quiet.clean) in
    let first : IsClean (g.S.Store.view c.args.database.now) = omega (arith, before, c.in_ok-has_cell.ensures.quiet.clean) in
    let ready = c.requires.ready first in
    let same = c.in_ok-has_cell.ensures.same before in
    unput_later (λ failed. omega (arith, failed, c.in_ok-has_cell.ensures.quiet.counts)) _
    (unput (g.S.Store.view c.has_cell.new.database) (MoreFaults (g.S.Store.faults c.has_cell.new.database) (g.S.Store.faults c.put.new.self)) _
    c.put.result _ c.in_err-map_err.ensures.cases (subst (λ (v : View). v.is_broken ≡ false) (sym same) ready.sound)
    (λ never. never (subst (λ (v : View). IsStorableRow (v.reals 0) c.in_ok-row.row) (sym same)
    (row_stored _ ready.plain _ _ _ _ _ c.args.octets.now c.requires.few c.in_ok-row.ensures)))
    (c.put.ensures.cause clean)))
