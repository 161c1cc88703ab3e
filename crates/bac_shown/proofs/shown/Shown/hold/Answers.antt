use Rattle.std.proofs.Math.Logic.{∥∥₁_map}
use Rattle.bac_shown.proofs.Steps.{puts_held}
use Rattle.bac_shown.proofs.shown.Shown.hold.Goals as goal

pub invariant_of-self-2 : goal.invariant_of-self-2
invariant_of-self-2 g c = record { put = rw (c.note.ensures, c.in_ok-extend_from_slice.ensures.items) (∥∥₁_map c.args.self.now.put (λ a. puts_held _ _ _ _ _ _ _ c.args.octet.now a)) }
