-- The elements so far came.
use Rattle.std.proofs.Common.{◌-◌, ◌≤◌, map}
use Rattle.bac_value.specs.Views.{object_identifier_view}
use Rattle.bac_npdu.specs.Views.{peer_view}
use Rattle.bac_driver.specs.Runs.{timed}
use Rattle.bac_environment.specs.Sockets.{OnPort}
use Rattle.bac_points.specs.Lists.{ElementsCame}
use Rattle.bac_points.proofs.objects.objects_in_parts.Given as goal

abbrev pub invariant-loop-behind : goal.invariant-loop-behind
invariant-loop-behind g l =
    ElementsCame (OnPort g.M.Sockets.is_bound g.M.Link.Link.failures g.M.Link.Link.calls) l.fn.desk.asking.now (peer_view l.fn.desk.peer)
    (object_identifier_view l.fn.device) l.behind (map object_identifier_view l.objects.items)
    (timed l.fn.client.station.bound_node (g.M.Timer.Clock.told l.fn.client.station.clock))
    (timed l.client.station.bound_node (g.M.Timer.Clock.told l.client.station.clock))
    × (l.behind ≤ l.fn.count)

abbrev pub decreases-loop-behind : goal.decreases-loop-behind
decreases-loop-behind g l = l.fn.count - l.behind
