use Rattle.std.proofs.Common.{refl}
use Rattle.bac_environment.specs.Sockets.{OnPort}
use Rattle.bac_asking.proofs.InFlight.{both_go, none_goes}
use Rattle.bac_asking.proofs.window.begin_more.Goals as goal

pub loop-init : goal.loop-init
loop-init g c = none_goes (OnPort g.M.Sockets.is_bound g.M.Link.Link.failures g.M.Link.Link.calls) _ _ _ refl

pub returns-then-not-began-clause-goes : goal.returns-then-not-began-clause-goes
returns-then-not-began-clause-goes g c =
    both_go (OnPort g.M.Sockets.is_bound g.M.Link.Link.failures g.M.Link.Link.calls) _ _ _ _ c.loop.invariant c.in_ok-began.ensures.goes

pub loop-preserved : goal.loop-preserved
loop-preserved g c =
    both_go (OnPort g.M.Sockets.is_bound g.M.Link.Link.failures g.M.Link.Link.calls) _ _ _ _ c.loop.invariant c.in_ok-began.ensures.goes
