use Rattle.std.proofs.Math.Logic.{∥∥₁_map}
use Rattle.bac_shown.proofs.Steps.{puts_kept}
use Rattle.bac_shown.proofs.shown.ShownWrite.flush.Goals as goal

pub invariant_of-self : goal.invariant_of-self
invariant_of-self g c = record { put = ∥∥₁_map c.settle.new.self.put (puts_kept _ _ _ _ _ _ _ c.flush.ensures.bytes) }
