-- The client asked the question that the words are.
use Rattle.bac_environment.specs.Sockets.{OnClock, OnPort}
use Rattle.bac_asking.proofs.Asked.{asked_so}
use Rattle.bac_asking.proofs.online.ask.Goals as goal

pub returns : goal.returns
returns g c =
    asked_so (OnPort g.M.Sockets.is_bound g.M.Link.Link.failures g.M.Link.Link.calls) (OnClock g.M.Sockets.is_made g.M.Timer.Clock.told) c.args.asking.now
    _ _ _ _ _ c.ask_by_client.result c.in-Ok.ensures c.ask_by_client.ensures
