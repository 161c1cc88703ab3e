-- The keeper that is left is that of the stretches.
use Rattle.bac_serving.proofs.KeptServed.{ran_in_stretches}
use Rattle.bac_serving.proofs.keeping.in_stretches.Goals as goal

pub returns-in-Ok : goal.returns-in-Ok
returns-in-Ok g c =
    ran_in_stretches g.K.Keeper.IsHonest g.K.Keeper.IsOpen g.K.Keeper.kept g.K.Keeper.noted g.K.Keeper.base _ c.serve_with-served.new.server.round
    c.into_keeper-keeper.result _ _ _ _ _ c.in-Ok.ensures.printed c.in-Ok.ensures.sound c.in-Ok.ensures.honest c.into_keeper-keeper.ensures
