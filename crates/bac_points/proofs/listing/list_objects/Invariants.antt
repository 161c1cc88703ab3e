-- The columns of the objects so far were asked for.
use Rattle.std.proofs.Common.{length, map}
use Rattle.bac_value.specs.Views.{object_identifier_view}
use Rattle.bac_npdu.specs.Views.{peer_view}
use Rattle.bac_driver.specs.Runs.{timed}
use Rattle.bac_environment.specs.Sockets.{OnPort}
use Rattle.bac_points.proofs.Batches.{ColumnsSoFar}
use Rattle.bac_points.proofs.listing.list_objects.Given as goal

abbrev pub invariant-loop-rest : goal.invariant-loop-rest
invariant-loop-rest g l =
    ColumnsSoFar (OnPort g.M.Sockets.is_bound g.M.Link.Link.failures g.M.Link.Link.calls) l.fn.desk.asking.now (peer_view l.fn.desk.peer)
    (map object_identifier_view l.rest) (map object_identifier_view l.fn.objects) l.all
    (timed l.fn.client.station.bound_node (g.M.Timer.Clock.told l.fn.client.station.clock))
    (timed l.client.station.bound_node (g.M.Timer.Clock.told l.client.station.clock))

abbrev pub decreases-loop-rest : goal.decreases-loop-rest
decreases-loop-rest g l = length l.rest
