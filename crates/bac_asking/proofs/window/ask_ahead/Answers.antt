use Rattle.std.proofs.Common.{length, ap, arith}
use Rattle.bac_driver.specs.Runs.{timed}
use Rattle.bac_environment.specs.Sockets.{OnPort}
use Rattle.bac_asking.proofs.InFlight.{all_printed, none_printed_of, one_more_printed}
use Rattle.bac_asking.proofs.Once.{asked_once}
use Rattle.bac_asking.proofs.window.ask_ahead.Goals as goal

pub loop-place-init : goal.loop-place-init
loop-place-init g c =
    none_printed_of (OnPort g.M.Sockets.is_bound g.M.Link.Link.failures g.M.Link.Link.calls) _ _ c.args.lines.now _ _ _
    (length c.args.lines.now) c.new-2.ensures c.in-Ok-new.ensures

pub loop-place-preserved : goal.loop-place-preserved
loop-place-preserved g c =
    let at = c.loop-place in
    one_more_printed (OnPort g.M.Sockets.is_bound g.M.Link.Link.failures g.M.Link.Link.calls) _ _ _ _ _ _ _ (length c.args.lines.now)
    at.place at.all _ _ at.invariant c.both-all.ensures c.in_ok-succeeded.ensures.told

pub returns-clause-asked : goal.returns-clause-asked
returns-clause-asked g c =
    let at = c.loop-place in
    let prints =
    all_printed (OnPort g.M.Sockets.is_bound g.M.Link.Link.failures g.M.Link.Link.calls) _ _ _ _ _ _ (length c.args.lines.now) at.place
    at.all (omega arith) (ap (λ s. timed s.bound_node (g.M.Timer.Clock.told s.clock)) c.in_ok-part_with_all.ensures.same) at.invariant in
    record {
      share = c.in-Ok.share;
      events = at.invariant.events;
      prints = prints;
      once =
          λ place within.
          asked_once (OnPort g.M.Sockets.is_bound g.M.Link.Link.failures g.M.Link.Link.calls) _ place at.invariant.events at.all _ _
          c.args.lines.now _ _ prints within;
    }
