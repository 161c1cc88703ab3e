-- One more slot.
use Rattle.bac_slots.proofs.Fronts.{first_next}
use Rattle.bac_responder.specs.Freeing.{dies}
use Rattle.bac_responder.proofs.freeing.first_dead.Goals as goal

pub loop-n-preserved : goal.loop-n-preserved
loop-n-preserved g c =
    record {
      first = first_next dies c.loop-n.n (g.S.SlotTable.slots c.args.table.now) c.loop-n.first c.dead_from.result c.min-first.result
          c.loop-n.invariant.first c.dead_from.ensures.slot c.dead_from.ensures.most c.min-first.ensures;
      ends = c.loop-n.invariant.ends;
    }
