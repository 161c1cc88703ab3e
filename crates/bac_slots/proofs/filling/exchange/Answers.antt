-- The numbers between the two places move by one.
use Rattle.std.proofs.Common.{◌∙◌, ap, arith, set}
use Rattle.bac_slots.proofs.Moves.{moved_down, moved_up}
use Rattle.bac_slots.proofs.filling.exchange.Goals.{then-from-to, else-from-to}
use Rattle.bac_slots.proofs.filling.exchange.Goals as goal

pub returns : goal.returns
returns c = elim c.if-from-to.branch [
  | then-from-to w ↦ ap (λ l. set l c.args.to c.args.number) (w.numbers-is ∙ w.copy_within.ensures.after)
      ∙ moved_down c.args.number c.args.from c.args.to c.args.numbers.now w.if-from-to.true c.requires.to
  | else-from-to w ↦ ap (λ l. set l c.args.to c.args.number) (w.numbers-is ∙ w.copy_within-else-from-to.ensures.after)
      ∙ moved_up c.args.number c.args.from c.args.to c.args.numbers.now (omega (arith, w.if-from-to.false)) c.requires.from
]
