-- The observer sees the turns after the ask.
use Rattle.std.proofs.Common.{Option, refl, rules, subst}
use Rattle.bac_requester.specs.declared.ending.Ending.{Ending}
use Rattle.bac_driver.specs.Observed.{ObservedWait, observed}
use Rattle.bac_driver.specs.Runs.{timed}
use Rattle.bac_driver.proofs.bound_node.BoundNode.ask_observed.Goals as goal

pub returns-in-Err : goal.returns-in-Err
returns-in-Err g c = record { ended = c.in-Err.ensures.refused (search rules); observed = refl; failed = tt }

pub returns-in-Some-clause-observed : goal.returns-in-Some-clause-observed
returns-in-Some-clause-observed g c =
    record {
      ticket = c.in-Ok.ticket;
      asked = observed (timed c.begin_by.new.self (g.C.Clock.told c.begin_by.new.clock)) (g.O.Observer.state c.args.observer.now c.args.out.now);
      begun = record { asks = c.in-Ok.ensures.begun; unseen = refl };
      rest_is =
          subst (λ (o : Option Ending). ObservedWait g.O.Observer.Sees c.args.limit.now.wait_limit c.args.limit.now.turns c.in-Ok.ticket
          (observed (timed c.begin_by.new.self (g.C.Clock.told c.begin_by.new.clock)) (g.O.Observer.state c.args.observer.now c.args.out.now))
          (observed (timed c.wait.new.self (g.C.Clock.told c.wait.new.clock)) (g.O.Observer.state c.wait.new.observer c.wait.new.out)) o)
          c.in-Some.is c.in_ok-ending.ensures.observed;
    }

pub returns-in-None-clause-observed : goal.returns-in-None-clause-observed
returns-in-None-clause-observed g c =
    record {
      ticket = c.in-Ok.ticket;
      asked = observed (timed c.begin_by.new.self (g.C.Clock.told c.begin_by.new.clock)) (g.O.Observer.state c.args.observer.now c.args.out.now);
      begun = record { asks = c.in-Ok.ensures.begun; unseen = refl };
      rest_is =
          subst (λ (o : Option Ending). ObservedWait g.O.Observer.Sees c.args.limit.now.wait_limit c.args.limit.now.turns c.in-Ok.ticket
          (observed (timed c.begin_by.new.self (g.C.Clock.told c.begin_by.new.clock)) (g.O.Observer.state c.args.observer.now c.args.out.now))
          (observed (timed c.wait.new.self (g.C.Clock.told c.wait.new.clock)) (g.O.Observer.state c.wait.new.observer c.wait.new.out)) o)
          c.in-None.is c.in_ok-ending.ensures.observed;
    }
