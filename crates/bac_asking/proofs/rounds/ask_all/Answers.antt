use Rattle.bac_environment.specs.Sockets.{OnPort}
use Rattle.bac_asking.proofs.Asked.{asked_one}
use Rattle.bac_asking.proofs.rounds.ask_all.Goals as goal

pub returns-in-One-clause-asked : goal.returns-in-One-clause-asked
returns-in-One-clause-asked g c =
    asked_one (OnPort g.M.Sockets.is_bound g.M.Link.Link.failures g.M.Link.Link.calls) c.args.asking.now c.args.asked.now c.in-One.question c.ask_one.result _ _ _ _ c.in-One.is c.ask_one.ensures.asked
