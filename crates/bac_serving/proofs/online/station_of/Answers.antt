-- The bound node is on a link that was bound, with its setting, and the clock was made.
use Rattle.std.proofs.Common.{refl, ap, ◌∙◌}
use Rattle.bac_driver.specs.BoundNodes.{BoundNode}
use Rattle.bac_driver.specs.Runs.{timed}
use Rattle.bac_environment.specs.Sockets.{OnClock, OnPort}
use Rattle.bac_serving.proofs.Served.{station_so}
use Rattle.bac_serving.proofs.online.station_of.Goals as goal

pub returns-clause-server : goal.returns-clause-server
returns-clause-server g c =
    let set = c.set.ensures in
    station_so (OnPort g.M.Sockets.is_bound g.M.Link.Link.failures g.M.Link.Link.calls) (OnClock g.M.Sockets.is_made g.M.Timer.Clock.told) _ c.args.serving.now
    c.now-start.result c.restart-restart.result c.in-Ok.bound.1 (timed c.set.new.bound_node (g.M.Timer.Clock.told c.now-start.new.self)) c.restart-restart.ensures
    (ap (λ (b : BoundNode). b.node) set ∙ c.in-Ok-bound.ensures.node)
    (record {
      link = c.in-Ok.bound.0;
      bound = c.in-Ok.ensures;
      failed = ap (λ (b : BoundNode). b.failures) set ∙ c.in-Ok-bound.ensures.failures;
      made = ap (λ (b : BoundNode). b.calls) set ∙ c.in-Ok-bound.ensures.calls;
    })
    (record {
      before = g.M.Timer.Clock.told c.in-Some.clock;
      made = record { timer = c.in-Some.clock; made = c.in-Some.ensures; is = refl };
      is = c.now-start.ensures.tells;
    })
    (ap (λ (b : BoundNode). b.rules) set)
