use Rattle.std.proofs.Common.{◌≡◌}
use Rattle.bac_tests.proofs.keeping.playing.keep_rounds.Given as goal

abbrev pub invariant-loop-at : goal.invariant-loop-at
invariant-loop-at g l =
    g.K.Keeper.IsHonest l.keeper → g.K.Keeper.IsOpen l.keeper × (g.K.Keeper.noted l.keeper ≡ l.store)
