use Rattle.std.proofs.Common.{◌≤◌}
use Rattle.bac_driver.specs.Runs.{timed}
use Rattle.bac_driver.specs.Seen.{WatchesTurns}
use Rattle.bac_driver.specs.Serving.{TakesTurns}
use Rattle.bac_driver.proofs.bound_node.BoundNode.serve_observed.Given as goal

abbrev pub invariant-loop : goal.invariant-loop
invariant-loop g l =
    record {
      served :
          TakesTurns l.limit.wait_limit l.counter l.effects (timed l.initial.self (g.C.Clock.told l.initial.clock)) (timed l.self (g.C.Clock.told l.clock));
      watched :
          WatchesTurns g.O.Observer.Sees l.limit.wait_limit (g.O.Observer.state l.initial.observer l.initial.out) (g.O.Observer.state l.observer l.out)
          l.counter l.effects (timed l.initial.self (g.C.Clock.told l.initial.clock)) (timed l.self (g.C.Clock.told l.clock));
      few : l.effects ≤ l.counter;
    }
