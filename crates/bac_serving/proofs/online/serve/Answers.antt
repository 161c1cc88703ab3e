-- It serves with the station that was made; where none was, nothing was printed.
use Rattle.bac_environment.specs.Sockets.{OnClock, OnPort}
use Rattle.bac_serving.proofs.Served.{none_served, served_so}
use Rattle.bac_serving.proofs.online.serve.Goals as goal

pub returns-in-Err : goal.returns-in-Err
returns-in-Err g c = none_served _ _ _ c.args.serving.now c.in-Err.status _ c.in-Err.ensures.refused

pub returns : goal.returns
returns g c =
    served_so (OnPort g.M.Sockets.is_bound g.M.Link.Link.failures g.M.Link.Link.calls) (OnClock g.M.Sockets.is_made g.M.Timer.Clock.told) _ _ _ _ _ _ _
    c.serve_from-status.result c.in-Ok.ensures.server c.serve_from-status.ensures
