use Rattle.std.proofs.Common.{◌≡◌, ◌-◌, drop}
use Rattle.bac_keep.specs.Overlay.{overlay}
use Rattle.bac_keep.specs.Held.{IsRising, held}
use Rattle.bac_keep.proofs.restoring.restored.Given as goal

abbrev pub invariant-loop-done : goal.invariant-loop-done
invariant-loop-done l = IsRising l.cells → l.store ≡ overlay (held (drop (l.count - l.done) l.cells)) l.document
