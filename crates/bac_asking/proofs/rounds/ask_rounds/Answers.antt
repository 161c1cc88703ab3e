use Rattle.std.proofs.Common.{◌≡◌, suc, ◌+◌, true, arith}
use Rattle.bac_driver.specs.Runs.{timed}
use Rattle.bac_asking.specs.Asked.{AsksAll}
use Rattle.bac_asking.specs.Rounds.{AreRoundsFrom}
use Rattle.bac_environment.specs.Sockets.{OnPort}
use Rattle.bac_asking.proofs.InRounds.{all_rounds, one_more_round}
use Rattle.bac_asking.proofs.rounds.ask_rounds.Goals as goal

pub loop-preserved : goal.loop-preserved
loop-preserved g c =
    let at = c.loop in
    λ left few all last end more. one_more_round (AsksAll (OnPort g.M.Sockets.is_bound g.M.Link.Link.failures g.M.Link.Link.calls) c.args.asking.now c.args.asked.now) c.args.rounds.every left at.from _ _ at.all _ _ all _ _ last _ _ end
    (λ b t o. AreRoundsFrom (AsksAll (OnPort g.M.Sockets.is_bound g.M.Link.Link.failures g.M.Link.Link.calls) c.args.asking.now c.args.asked.now) c.args.rounds.every c.most-times.result 0 b
    (timed c.args.client.now.station.bound_node (g.M.Timer.Clock.told c.args.client.now.station.clock)) t (g.O.Write.contents c.args.out.now) o)
    c.both-all.ensures c.next_from-from.ensures c.in_ok-round.ensures.asked (at.invariant (suc left) (omega arith)) more

pub returns-clause-asked : goal.returns-clause-asked
returns-clause-asked g c =
    let at = c.loop in
    all_rounds (AsksAll (OnPort g.M.Sockets.is_bound g.M.Link.Link.failures g.M.Link.Link.calls) c.args.asking.now c.args.asked.now) c.args.rounds.every c.most-times.result _ at.all _ _ _ _ c.most-times.ensures
    (at.invariant 0 (omega arith) true _ _)
