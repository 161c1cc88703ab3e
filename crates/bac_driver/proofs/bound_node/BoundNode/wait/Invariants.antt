-- No turn so far has ended the transaction, and the observer saw each.
use Rattle.bac_driver.specs.Runs.{timed}
use Rattle.bac_driver.specs.Seen.{turn_of}
use Rattle.bac_driver.specs.Serving.{TakesEarlyTurn}
use Rattle.bac_driver.specs.Asking.{NeverEnds, own_turn}
use Rattle.bac_driver.specs.Observed.{TakesObservedTurn, observed}
use Rattle.bac_driver.proofs.bound_node.BoundNode.wait.Given as goal

abbrev pub invariant-loop : goal.invariant-loop
invariant-loop g l =
    record {
      waited : NeverEnds (TakesEarlyTurn l.limit.wait_limit) own_turn l.counter l.ticket (timed l.initial.self (g.C.Clock.told l.initial.clock))
          (timed l.self (g.C.Clock.told l.clock));
      seen : NeverEnds (TakesObservedTurn g.O.Observer.Sees l.limit.wait_limit) turn_of l.counter l.ticket
          (observed (timed l.initial.self (g.C.Clock.told l.initial.clock)) (g.O.Observer.state l.initial.observer l.initial.out))
          (observed (timed l.self (g.C.Clock.told l.clock)) (g.O.Observer.state l.observer l.out));
    }
