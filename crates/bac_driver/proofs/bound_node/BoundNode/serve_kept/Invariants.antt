-- So many rounds were taken, and what they changed is kept.
use Rattle.std.proofs.Common.{◌≡◌}
use Rattle.bac_driver.specs.Kept.{keeper_of}
use Rattle.bac_driver.specs.Observed.{observed}
use Rattle.bac_driver.specs.Rounds.{IsKept, TakesRounds}
use Rattle.bac_driver.specs.Runs.{timed}
use Rattle.bac_driver.proofs.bound_node.BoundNode.serve_kept.Given as goal

abbrev pub invariant-loop : goal.invariant-loop
invariant-loop g l =
    record {
      taken : TakesRounds g.O.Observer.Sees l.limit.wait_limit l.counter l.effects
          (observed (timed l.initial.self (g.C.Clock.told l.initial.clock)) (g.O.Observer.state l.initial.observer l.initial.out))
          (observed (timed l.self (g.C.Clock.told l.clock)) (g.O.Observer.state l.observer l.out));
      kept : g.K.Keeper.IsHonest (keeper_of l.round) → IsKept g.K.Keeper.IsOpen g.K.Keeper.kept g.K.Keeper.noted (keeper_of l.round) l.self.node.store;
      honest : g.K.Keeper.IsHonest (keeper_of l.round) → g.K.Keeper.IsHonest (keeper_of l.initial.round);
      base : g.K.Keeper.base (keeper_of l.round) ≡ g.K.Keeper.base (keeper_of l.initial.round);
    }
