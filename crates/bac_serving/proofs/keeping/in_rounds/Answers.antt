-- The keeper that is left is that of the rounds.
use Rattle.bac_driver.specs.Runs.{timed}
use Rattle.bac_serving.proofs.KeptServed.{ran_in_rounds}
use Rattle.bac_serving.proofs.keeping.in_rounds.Goals as goal

pub returns : goal.returns
returns g c =
    let served = c.serve_kept_from-status.ensures in
    let last = c.serve_kept_from-status.new.server in
    let told = g.M.Timer.Clock.told in
    ran_in_rounds g.K.Keeper.IsHonest g.K.Keeper.IsOpen g.K.Keeper.kept g.K.Keeper.noted g.K.Keeper.base _ _ c.keeper_left-keeper.result c.args.serving.now
    c.args.start.moment (timed c.args.server.bound_node (told c.args.server.clock)) (timed last.bound_node (told last.clock)) (g.O.Write.contents c.args.out.now)
    (g.O.Write.contents c.serve_kept_from-status.new.out) c.serve_kept_from-status.result served.printed served.all served.honest served.base
    c.keeper_left-keeper.ensures
