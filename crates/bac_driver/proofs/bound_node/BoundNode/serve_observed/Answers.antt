use Rattle.std.proofs.Common.{arith}
use Rattle.bac_driver.proofs.Loops.{few_of, once_of, one_more_served, one_more_watched}
use Rattle.bac_driver.proofs.bound_node.BoundNode.serve_observed.Goals as goal

pub loop-preserved : goal.loop-preserved
loop-preserved g c =
    let once = once_of _ _ c.in-Some.more c.in-Some.is c.in_ok-once.ensures.served in
    record {
      served =
          one_more_served _ c.loop.counter c.loop.effects c.in-Some.more once.s.turn _ _ _ c.loop.invariant.served once.takes.takes once.counted;
      watched = one_more_watched g.O.Observer.Sees _ _ _ _ c.loop.counter c.loop.effects c.in-Some.more _ _ _ c.loop.invariant.watched once;
      few =
          let before = c.loop.invariant.few in
          let few = few_of _ _ _ c.in-Some.more c.in-Some.is c.in_ok-once.ensures.over in
          omega arith;
    }
