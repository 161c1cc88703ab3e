-- What is asked from here on completes what all lines ask.
use Rattle.std.proofs.Common.{ℕ, ◌&&◌, Bool, List, Option, drop}
use Rattle.bac_driver.specs.Runs.{Timed, timed}
use Rattle.bac_asking.specs.AskedLines.{AsksEach}
use Rattle.bac_environment.specs.Sockets.{OnPort}
use Rattle.bac_asking.proofs.asking_lines.ask_each.Given as goal

abbrev pub invariant-loop-place : goal.invariant-loop-place
invariant-loop-place g l = (all : Bool) (last : Timed) (end : Option (List ℕ))
    → AsksEach (OnPort g.M.Sockets.is_bound g.M.Link.Link.failures g.M.Link.Link.calls) l.asking (drop l.place l.lines) all (timed l.client.station.bound_node (g.M.Timer.Clock.told l.client.station.clock)) last
    (g.O.Write.contents l.out) end
    → AsksEach (OnPort g.M.Sockets.is_bound g.M.Link.Link.failures g.M.Link.Link.calls) l.asking l.lines (l.all && all) (timed l.fn.client.station.bound_node (g.M.Timer.Clock.told l.fn.client.station.clock)) last
    (g.O.Write.contents l.fn.out) end
