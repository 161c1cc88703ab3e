use Rattle.std.proofs.Math.Logic.{∥∥₁_map}
use Rattle.bac_shown.proofs.Steps.{puts_more}
use Rattle.bac_shown.proofs.shown.Shown.settle.Goals as goal

pub invariant_of-self : goal.invariant_of-self
invariant_of-self g c = record { put = ∥∥₁_map c.args.self.now.put (λ a. puts_more _ _ _ _ _ _ _ _ _ _ a c.settle.ensures.kept) }
