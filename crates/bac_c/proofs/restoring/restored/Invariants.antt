use Rattle.std.proofs.Common.{◌≡◌, ◌-◌, drop}
use Rattle.bac_keep.specs.Overlay.{overlay}
use Rattle.bac_keep.specs.Held.{IsRising, held}
use Rattle.bac_c.specs.Fitting.{EachFits}
use Rattle.bac_c.proofs.restoring.restored.Given as goal

abbrev pub invariant-loop-done : goal.invariant-loop-done
invariant-loop-done l = record {
  made : IsRising l.cells → l.store ≡ overlay (held (drop (l.count - l.done) l.cells)) l.document;
  fit : IsRising l.cells → EachFits l.document (held l.cells) (drop (l.count - l.done) l.cells);
}
