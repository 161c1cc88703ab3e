-- What happened so far, and then the asks of lines that wait began, and what is under way went on.
use Rattle.std.proofs.Common.{refl}
use Rattle.bac_environment.specs.Sockets.{OnPort}
use Rattle.bac_asking.proofs.InFlight.{both_go, end_taken, goes_on, none_goes, none_taken}
use Rattle.bac_asking.proofs.window.end_line.Goals as goal

pub loop-init : goal.loop-init
loop-init g c = none_goes (OnPort g.M.Sockets.is_bound g.M.Link.Link.failures g.M.Link.Link.calls) _ _ _ refl

pub returns-in-Some-clause-ended : goal.returns-in-Some-clause-ended
returns-in-Some-clause-ended g c =
    record {
      ended = _;
      goes =
          both_go (OnPort g.M.Sockets.is_bound g.M.Link.Link.failures g.M.Link.Link.calls) _ _ _ _ c.loop.invariant c.in_ok-begin_more.ensures.goes;
      taken = end_taken c.args.place c.take_end.result c.in-Some.end _ _ c.in-Some.is c.take_end.ensures;
      same = refl;
      fleet = refl;
    }

pub loop-preserved : goal.loop-preserved
loop-preserved g c =
    goes_on (OnPort g.M.Sockets.is_bound g.M.Link.Link.failures g.M.Link.Link.calls) _ _ _ _ _ _ _
    (both_go (OnPort g.M.Sockets.is_bound g.M.Link.Link.failures g.M.Link.Link.calls) _ _ _ _ c.loop.invariant c.in_ok-begin_more.ensures.goes)
    (none_taken c.args.place c.take_end.result _ _ c.in_default.not-Some c.take_end.ensures) c.in_ok-go_on.ensures.went
