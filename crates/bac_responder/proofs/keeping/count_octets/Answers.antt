-- One more slot.
use Rattle.std.proofs.Common.{◌<◌, length, arith}
use Rattle.bac_responder.specs.Kept.{counted}
use Rattle.bac_responder.proofs.Sums.{sum_next}
use Rattle.bac_responder.proofs.keeping.count_octets.Goals as goal

pub loop-n-preserved : goal.loop-n-preserved
loop-n-preserved g c =
    let within : c.loop-n.n < length (g.S.SlotTable.slots c.args.table.now) = omega (arith, c.loop-n-test.true, c.loop-n.invariant.ends) in
    record {
      sum = sum_next (counted c.args.only_live c.args.now) c.loop-n.n c.loop-n.octets c.in_ok-octets_at.field-0 c.in_ok-octets.octets (g.S.SlotTable.slots c.args.table.now)
          c.loop-n.invariant.sum within c.in_ok-octets_at.ensures c.in_ok-octets.ensures.1;
      ends = c.loop-n.invariant.ends;
    }
