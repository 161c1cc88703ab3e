-- It noted the changes so far.
use Rattle.bac_driver.specs.Rounds.{HasNoted}
use Rattle.bac_serving.proofs.following_keeper.note_all.Given as goal

abbrev pub invariant-loop-change : goal.invariant-loop-change
invariant-loop-change g l =
    (g.K.Keeper.IsHonest l.keeper → HasNoted g.K.Keeper.IsOpen g.K.Keeper.noted l.keeper l.store)
    × (g.K.Keeper.IsHonest l.keeper → g.K.Keeper.IsHonest l.fn.keeper)
