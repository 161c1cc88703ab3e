-- The node that asked before is ready, or the next one.
use Rattle.std.proofs.Common.{ap, inl}
use Rattle.bac_driver.specs.Moments.{Told}
use Rattle.bac_driver.specs.Runs.{timed}
use Rattle.bac_environment.specs.Sockets.{OnPort}
use Rattle.bac_asking.proofs.Clients.{ready_anew}
use Rattle.bac_asking.proofs.asking_lines.get_ready.Goals as goal

pub returns-then-not-is_over-clause-ready : goal.returns-then-not-is_over-clause-ready
returns-then-not-is_over-clause-ready g c = inl (ap (λ (t : Told). timed c.args.client.now.station.bound_node t) c.now-start.ensures.tells)

pub returns-clause-ready : goal.returns-clause-ready
returns-clause-ready g c =
    ready_anew (OnPort g.M.Sockets.is_bound g.M.Link.Link.failures g.M.Link.Link.calls) c.now-start.result
    (timed c.args.client.now.station.bound_node (g.M.Timer.Clock.told c.args.client.now.station.clock)) _ _ c.now-start.ensures.tells
    c.in_ok-replace.ensures.renewed
