-- The asks of the lines before this place have ended.
use Rattle.bac_driver.specs.Runs.{timed}
use Rattle.bac_asking.proofs.Gathered.{EndsSoFar}
use Rattle.bac_asking.specs.InFlight.{aloft, plan_view, sky}
use Rattle.bac_environment.specs.Sockets.{OnPort}
use Rattle.bac_asking.proofs.gathering.end_all_lines.Given as goal

abbrev pub invariant-loop-place : goal.invariant-loop-place
invariant-loop-place g l =
    EndsSoFar (OnPort g.M.Sockets.is_bound g.M.Link.Link.failures g.M.Link.Link.calls) (plan_view l.plan) l.place l.ends.items
    (aloft (timed l.fn.client.station.bound_node (g.M.Timer.Clock.told l.fn.client.station.clock)) l.fn.traffic.fleet (sky l.fn.traffic.flights))
    (aloft (timed l.client.station.bound_node (g.M.Timer.Clock.told l.client.station.clock)) l.traffic.fleet (sky l.traffic.flights))
