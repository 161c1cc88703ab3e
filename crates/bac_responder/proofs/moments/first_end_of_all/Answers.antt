-- One more slot.
use Rattle.std.proofs.Common.{arith}
use Rattle.bac_slots.proofs.Fronts.{first_next}
use Rattle.bac_responder.specs.Timers.{life_end}
use Rattle.bac_responder.proofs.moments.first_end_of_all.Goals as goal

pub loop-n-preserved : goal.loop-n-preserved
loop-n-preserved g c =
    record {
      first = first_next life_end c.loop-n.n (g.S.SlotTable.slots c.args.table.now) c.loop-n.end c.end_at.result c.min-end.result
          c.loop-n.invariant.first c.end_at.ensures (omega arith) c.min-end.ensures;
      ends = c.loop-n.invariant.ends;
    }
