-- The turns so far are held, and what they changed is noted.
use Rattle.std.proofs.Common.{◌≡◌, ◌≤◌, false, length}
use Rattle.bac_driver.specs.Kept.{keeper_of, turns_of}
use Rattle.bac_driver.specs.Observed.{observed}
use Rattle.bac_driver.specs.Rounds.{FindsNoMore, HasNoted, HoldsMore, OnlyReceives, ROUND, change_store}
use Rattle.bac_driver.specs.Runs.{timed}
use Rattle.bac_driver.proofs.bound_node.BoundNode.hold_more.Given as goal

abbrev pub invariant-loop : goal.invariant-loop
invariant-loop g l =
    record {
      taken : HoldsMore g.O.Observer.Sees (turns_of l.initial.round) (turns_of l.round)
          (observed (timed l.initial.self (g.C.Clock.told l.initial.clock)) (g.O.Observer.state l.initial.observer l.initial.out))
          (observed (timed l.self (g.C.Clock.told l.clock)) (g.O.Observer.state l.observer l.out));
      most : length (turns_of l.round) ≤ ROUND;
      same : change_store (turns_of l.round) ≡ false → keeper_of l.round ≡ keeper_of l.initial.round;
      unsent : OnlyReceives l.initial.self.calls l.self.calls;
      noted : g.K.Keeper.IsHonest (keeper_of l.round) → HasNoted g.K.Keeper.IsOpen g.K.Keeper.noted (keeper_of l.round) l.self.node.store;
      kept : g.K.Keeper.IsHonest (keeper_of l.round) → g.K.Keeper.kept (keeper_of l.round) ≡ g.K.Keeper.kept (keeper_of l.initial.round);
      crash : FindsNoMore g.K.Keeper.IsHonest g.K.Keeper.may_find (keeper_of l.initial.round) (keeper_of l.round);
      base : g.K.Keeper.base (keeper_of l.round) ≡ g.K.Keeper.base (keeper_of l.initial.round);
    }
