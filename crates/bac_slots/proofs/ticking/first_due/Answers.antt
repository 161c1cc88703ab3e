-- One more slot is not due before.
use Rattle.std.proofs.Common.{◌≤◌, arith}
use Rattle.bac_slots.proofs.Fronts.{each_next, first_next}
use Rattle.bac_slots.proofs.ticking.first_due.Goals as goal

pub loop-n-preserved : goal.loop-n-preserved
loop-n-preserved g c =
    let before : c.min-due.result ≤ c.loop-n.due = omega (arith, c.min-due.ensures) in
    let at : c.min-due.result ≤ c.due_at.result = omega (arith, c.min-due.ensures) in
    record {
      quiet = each_next (λ s. g.V.Aged.IsQuiet c.args.from c.loop-n.due s.value) (λ s. g.V.Aged.IsQuiet c.args.from c.due_at.result s.value)
          (λ s. g.V.Aged.IsQuiet c.args.from c.min-due.result s.value) c.loop-n.n (g.S.SlotTable.slots c.args.table.now)
          (λ s q. c.ages.ensures.earlier c.args.from c.loop-n.due c.min-due.result s.value before q)
          (λ s q. c.ages.ensures.earlier c.args.from c.due_at.result c.min-due.result s.value at q) c.loop-n.invariant.quiet c.due_at.ensures.quiet;
      due = first_next (g.V.Aged.due_of c.args.from) c.loop-n.n (g.S.SlotTable.slots c.args.table.now) c.loop-n.due c.due_at.result c.min-due.result
          c.loop-n.invariant.due c.due_at.ensures.due (omega arith) c.min-due.ensures;
      ends = c.loop-n.invariant.ends;
    }
