use Rattle.std.proofs.Common.{rules, arith, ◌≡◌, List, Bool, true, sym, subst}
use Rattle.bac_keep.specs.declared.cell.Cell.{Cell}
use Rattle.bac_keep.specs.declared.fault.KeepFault.{KeepFault}
use Rattle.bac_keep_file.proofs.Faults.{if_ok, on_ok}
use Rattle.bac_keep_file.specs.Refused.{IsNoCell, IsUnreadable}
use Rattle.bac_keep_file.specs.Rows.{IsRowOf}
use Rattle.bac_keep_file.proofs.RowReading.{HasReadSome, begins, failed_for, goes_on, more_failed, other_row}
use Rattle.sqlite_trees.specs.View.{Advances, IsClean}
use Rattle.sqlite_disk.specs.Disk.{MoreFaults}
use Rattle.bac_keep.proofs.Refusals.{passed_on}
use Rattle.bac_keep_file.proofs.reading.read_cells.Goals as goal

pub loop-init : goal.loop-init
loop-init g c = record {
  clean = c.seek-2.ensures.quiet.clean;
  live = on_ok _ c.in_ok-map_err.ensures.variant c.seek-2.ensures.live;
  some = λ clean. subst (λ (cs : List Cell). HasReadSome (g.S.Store.view c.args.database.now) cs (g.S.Store.view c.seek-2.new.self))
      (sym c.new-cells.ensures.items)
      (begins _ _ _ c.new.ensures (c.requires (omega (arith, clean, c.seek-2.ensures.quiet.clean))) (on_ok _ c.in_ok-map_err.ensures.variant c.seek-2.ensures.ok clean));
  counts = c.seek-2.ensures.quiet.counts;
  crash = c.seek-2.ensures.quiet.outcomes;
}

pub loop-preserved : goal.loop-preserved
loop-preserved g c = record {
  clean = omega (arith, c.loop.invariant.clean, c.next.ensures.quiet.clean);
  live = on_ok _ c.in_ok-map_err-2.ensures.variant c.next.ensures.stay 0 c.loop.invariant.live;
  some = λ clean.
      let more : c.in_ok-map_err-2.field-0 ≡ true = search rules in
      let makes : IsRowOf c.in-Some.cell.place c.in-Some.cell.octets.items c.next.new.row = search rules in
      subst (λ (cs : List Cell). HasReadSome (g.S.Store.view c.args.database.now) cs (g.S.Store.view c.next.new.self)) (sym c.in_ok-push.ensures.items)
      (goes_on _ _ _ _ _ _ (c.loop.invariant.some (omega (arith, clean, c.next.ensures.quiet.clean))) makes
      (subst (λ (b : Bool). Advances (g.S.Store.view c.loop.database) (g.S.Store.view c.next.new.self) 0 c.next.new.row b) more
      (if_ok KeepFault (λ found. IsClean (g.S.Store.view c.next.new.self) → Advances (g.S.Store.view c.loop.database) (g.S.Store.view c.next.new.self) 0 c.next.new.row found) _ _
      c.in_ok-map_err-2.ensures.cases c.next.ensures.ok clean)));
  counts = omega (arith, c.loop.invariant.counts, c.next.ensures.quiet.counts);
  crash = λ db left. c.loop.invariant.crash db (c.next.ensures.quiet.outcomes db left);
}

pub returns-in_default-clause-refused : goal.returns-in_default-clause-refused
returns-in_default-clause-refused g c = λ clean.
    let more : c.in_ok-map_err-2.field-0 ≡ true = search rules in
    let other : IsNoCell c.next.new.row = search rules in
    other_row _ _ _ _ _ (c.loop.invariant.some (omega (arith, clean, c.next.ensures.quiet.clean)))
    (subst (λ (b : Bool). Advances (g.S.Store.view c.loop.database) (g.S.Store.view c.next.new.self) 0 c.next.new.row b) more
    (if_ok KeepFault (λ found. IsClean (g.S.Store.view c.next.new.self) → Advances (g.S.Store.view c.loop.database) (g.S.Store.view c.next.new.self) 0 c.next.new.row found) _ _
    c.in_ok-map_err-2.ensures.cases c.next.ensures.ok clean)) other

pub returns-in_err-map_err-clause-refused : goal.returns-in_err-map_err-clause-refused
returns-in_err-map_err-clause-refused g c =
    passed_on (λ e. IsClean (g.S.Store.view c.seek-2.new.self) → IsUnreadable ((g.S.Store.view c.args.database.now).trees 0)
    (MoreFaults (g.S.Store.faults c.args.database.now) (g.S.Store.faults c.seek-2.new.self)) e) _
    c.from_residual.result c.from_residual.ensures.1 (λ clean.
    let sound = (c.requires (omega (arith, clean, c.seek-2.ensures.quiet.clean))).sound in
    failed_for (g.S.Store.view c.args.database.now) _ _ c.seek-2.result _ c.in_err-map_err.ensures.cases sound (c.seek-2.ensures.cause clean))

pub returns-in_err-map_err-2-clause-refused : goal.returns-in_err-map_err-2-clause-refused
returns-in_err-map_err-2-clause-refused g c =
    passed_on (λ e. IsClean (g.S.Store.view c.next.new.self) → IsUnreadable ((g.S.Store.view c.args.database.now).trees 0)
    (MoreFaults (g.S.Store.faults c.args.database.now) (g.S.Store.faults c.next.new.self)) e) _
    c.from_residual-in_err-map_err-2.result c.from_residual-in_err-map_err-2.ensures.1 (λ clean.
    let so_far = c.loop.invariant.some (omega (arith, clean, c.next.ensures.quiet.clean)) in
    let before = MoreFaults (g.S.Store.faults c.loop.database) (g.S.Store.faults c.next.new.self) in
    let later = MoreFaults (g.S.Store.faults c.args.database.now) (g.S.Store.faults c.next.new.self) in
    more_failed {failed = before} {later = later} (λ failed. omega (arith, failed, c.loop.invariant.counts)) _ _
    (failed_for (g.S.Store.view c.loop.database) before _ c.next.result _ c.in_err-map_err-2.ensures.cases so_far.ready.sound (c.next.ensures.cause clean)))
