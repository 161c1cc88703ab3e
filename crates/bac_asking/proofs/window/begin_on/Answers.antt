-- At the node that asks, or at the next one.
use Rattle.bac_environment.specs.Sockets.{OnPort}
use Rattle.bac_asking.proofs.Clients.{begun_here, begun_next}
use Rattle.bac_asking.proofs.window.begin_on.Goals as goal

pub returns-in-Some-clause-begun : goal.returns-in-Some-clause-begun
returns-in-Some-clause-begun g c =
    begun_here (OnPort g.M.Sockets.is_bound g.M.Link.Link.failures g.M.Link.Link.calls) _ _ _ c.in_ok-told.told c.in-Some.begun _ _ _ c.in-Some.is
    c.in_ok-told.ensures.begun

pub returns-in-None-clause-begun : goal.returns-in-None-clause-begun
returns-in-None-clause-begun g c =
    begun_next (OnPort g.M.Sockets.is_bound g.M.Link.Link.failures g.M.Link.Link.calls) _ _ _ c.in_ok-told.told c.begin_at_next.result _ _ _ _ _ c.in-None.is
    c.in_ok-told.ensures.begun c.begin_at_next.ensures.begun
