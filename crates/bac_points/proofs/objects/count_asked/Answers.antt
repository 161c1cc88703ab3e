-- The number in the answer.
use Rattle.std.proofs.Common.{rules, Some}
use Rattle.std.proofs.lemmas.Result.{IfOk-weaker}
use Rattle.bac_value.specs.Views.{object_identifier_view}
use Rattle.bac_npdu.specs.Views.{peer_view}
use Rattle.bac_driver.specs.Runs.{timed}
use Rattle.bac_asking.specs.Clients.{AsksOn}
use Rattle.bac_environment.specs.Sockets.{OnPort}
use Rattle.bac_points.specs.Lists.{list_of, question_of}
use Rattle.bac_points.proofs.objects.count_asked.Goals as goal

pub returns-clause-asked : goal.returns-clause-asked
returns-clause-asked g c =
    let asks : AsksOn (OnPort g.M.Sockets.is_bound g.M.Link.Link.failures g.M.Link.Link.calls) c.args.desk.now.asking.now
    (question_of (peer_view c.args.desk.now.peer) (list_of (object_identifier_view c.args.device) (Some 0))) c.in_ok-end.end
    (timed c.args.client.now.station.bound_node (g.M.Timer.Clock.told c.args.client.now.station.clock))
    (timed c.list_asked.new.client.station.bound_node (g.M.Timer.Clock.told c.list_asked.new.client.station.clock)) = search rules in
    IfOk-weaker c.count_answered.result _ _ (λ count is. record { end = c.in_ok-end.end; asks = asks; is = search rules })
    c.count_answered.ensures.count
