-- The node that asks went on, and then one of those that leave.
use Rattle.bac_environment.specs.Sockets.{OnPort}
use Rattle.bac_asking.proofs.InFlight.{both_nodes, if_ok}
use Rattle.bac_asking.proofs.window.take_turns.Goals as goal

pub returns-in-Some-clause-went : goal.returns-in-Some-clause-went
returns-in-Some-clause-went g c =
    if_ok c.visit.result _ _
    (λ left. both_nodes (OnPort g.M.Sockets.is_bound g.M.Link.Link.failures g.M.Link.Link.calls) _ _ _ c.in_ok-is_busy.ensures.went left)
    c.visit.ensures.went
