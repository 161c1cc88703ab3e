-- It serves in rounds; in stretches, where the document is followed.
use Rattle.bac_environment.specs.Sockets.{OnClock, OnPort}
use Rattle.bac_serving.proofs.KeptServed.{served_so}
use Rattle.bac_serving.proofs.keeping.serve_round.Goals as goal

pub returns-in-None : goal.returns-in-None
returns-in-None g c =
    rw c.in-None.is (served_so _ (OnPort g.M.Sockets.is_bound g.M.Link.Link.failures g.M.Link.Link.calls) (OnClock g.M.Sockets.is_made g.M.Timer.Clock.told)
    _ c.args.serving.now _ _ _ _ _ c.in_rounds.result.0 c.in-Ok.ensures.server c.in_rounds.ensures)

pub returns-in-Some : goal.returns-in-Some
returns-in-Some g c =
    rw c.in-Some.is (served_so _ (OnPort g.M.Sockets.is_bound g.M.Link.Link.failures g.M.Link.Link.calls) (OnClock g.M.Sockets.is_made g.M.Timer.Clock.told)
    _ c.args.serving.now _ _ _ _ _ c.in_stretches.result.0 c.in-Ok.ensures.server (rw c.new-looker.ensures at c.in_stretches.ensures))
