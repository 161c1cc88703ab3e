use Rattle.std.proofs.Common.{arith}
use Rattle.bac_driver.specs.Turns.{call_of}
use Rattle.bac_driver.proofs.Counts.{counted_next, with_next}
use Rattle.bac_driver.proofs.sending.send_all.Goals as goal

pub loop-datagram-preserved : goal.loop-datagram-preserved
loop-datagram-preserved g c =
    record {
      most = omega (arith, c.send_one-lost.ensures.most);
      count = counted_next _ _ _ _ _ c.loop-datagram.invariant.count c.send_one-lost.ensures.count;
      order =
          with_next call_of _ _ _ c.args.sends.now c.loop-datagram.datagram-index c.datagram-item.result c.loop-datagram-test.true c.datagram-item.is
          c.loop-datagram.invariant.order c.send_one-lost.ensures.told;
    }
