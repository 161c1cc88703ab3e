use Rattle.std.proofs.Common.{arith}
use Rattle.bac_keep.specs.Held.{held}
use Rattle.bac_keep.proofs.Lists.{nothing_yet}
use Rattle.bac_c.proofs.Fits.{are_fit, none_yet}
use Rattle.bac_c.proofs.restoring.restored.Goals as goal

pub loop-done-init : goal.loop-done-init
loop-done-init c = record {
  made = λ rise. nothing_yet c.args.cells.now _ c.args.document.now _ (omega arith) c.in_ok-store.ensures.same;
  fit = λ rise. none_yet c.args.document.now (held c.args.cells.now) c.args.cells.now _ (omega arith);
}

pub returns-clause-fit : goal.returns-clause-fit
returns-clause-fit c = λ rise. are_fit c.args.document.now c.args.cells.now _ (omega arith) (c.loop-done.invariant.fit rise)
