-- What happened so far, and then one more turn.
use Rattle.bac_environment.specs.Sockets.{OnPort}
use Rattle.bac_asking.proofs.InFlight.{both_nodes, none_to_go}
use Rattle.bac_asking.proofs.window.visit.Goals as goal

pub loop-init : goal.loop-init
loop-init g c = record { went = none_to_go (OnPort g.M.Sockets.is_bound g.M.Link.Link.failures g.M.Link.Link.calls) _; within = c.requires }

pub returns-then-not-is_busy-clause-went : goal.returns-then-not-is_busy-clause-went
returns-then-not-is_busy-clause-went g c =
    both_nodes (OnPort g.M.Sockets.is_bound g.M.Link.Link.failures g.M.Link.Link.calls) _ _ _ c.loop.invariant.went c.in_ok-is_busy.ensures.went

pub loop-preserved : goal.loop-preserved
loop-preserved g c =
    record {
      went =
          both_nodes (OnPort g.M.Sockets.is_bound g.M.Link.Link.failures g.M.Link.Link.calls) _ _ _ c.loop.invariant.went c.in_ok-is_busy.ensures.went;
      within = c.in_ok-is_busy.ensures.stays c.if-not-is_busy.false;
    }
