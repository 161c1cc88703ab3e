-- What has happened so far; the node still leaves.
use Rattle.std.proofs.Common.{◌<◌, length}
use Rattle.bac_driver.specs.Runs.{timed}
use Rattle.bac_asking.specs.InFlight.{NodesGo, aloft, sky}
use Rattle.bac_environment.specs.Sockets.{OnPort}
use Rattle.bac_asking.proofs.window.visit.Given as goal

abbrev pub invariant-loop : goal.invariant-loop
invariant-loop g l =
    record {
      went :
          NodesGo (OnPort g.M.Sockets.is_bound g.M.Link.Link.failures g.M.Link.Link.calls)
          (aloft (timed l.fn.client.station.bound_node (g.M.Timer.Clock.told l.fn.client.station.clock)) l.fn.traffic.fleet (sky l.fn.traffic.flights))
          (aloft (timed l.client.station.bound_node (g.M.Timer.Clock.told l.client.station.clock)) l.traffic.fleet (sky l.traffic.flights));
      within : l.at < length l.traffic.fleet.leaving;
    }
