-- The round began at the moment that the clock printed.
use Rattle.bac_driver.specs.Runs.{timed}
use Rattle.bac_asking.specs.Asked.{AsksAll}
use Rattle.bac_environment.specs.Sockets.{OnPort}
use Rattle.bac_asking.proofs.InRounds.{round_begun}
use Rattle.bac_asking.proofs.rounds.ask_round.Goals as goal

pub returns-clause-asked : goal.returns-clause-asked
returns-clause-asked g c =
    round_begun (AsksAll (OnPort g.M.Sockets.is_bound g.M.Link.Link.failures g.M.Link.Link.calls) c.args.asking.now c.args.asked.now) c.args.from _ _ _
    (timed c.hear_until.new.station.bound_node (g.M.Timer.Clock.told c.hear_until.new.station.clock)) _ _ _ _
    c.in_ok-hear_until.ensures.rested c.now-began.ensures.tells c.in_ok-succeeded.ensures.asked
