-- What has happened so far.
use Rattle.bac_driver.specs.Runs.{timed}
use Rattle.bac_asking.specs.InFlight.{Goes, aloft, plan_view, sky}
use Rattle.bac_environment.specs.Sockets.{OnPort}
use Rattle.bac_asking.proofs.window.end_line.Given as goal

abbrev pub invariant-loop : goal.invariant-loop
invariant-loop g l =
    Goes (OnPort g.M.Sockets.is_bound g.M.Link.Link.failures g.M.Link.Link.calls) (plan_view l.plan)
    (aloft (timed l.fn.client.station.bound_node (g.M.Timer.Clock.told l.fn.client.station.clock)) l.fn.traffic.fleet (sky l.fn.traffic.flights))
    (aloft (timed l.client.station.bound_node (g.M.Timer.Clock.told l.client.station.clock)) l.traffic.fleet (sky l.traffic.flights))
