-- The clock was made.
use Rattle.std.proofs.Common.{refl}
use Rattle.bac_environment.specs.Sockets.{OnClock}
use Rattle.bac_environment.proofs.Statuses.{lifted}
use Rattle.bac_asking.proofs.online.pair_nodes.Goals as goal

pub returns-in-Some : goal.returns-in-Some
returns-in-Some g c =
    let clock : OnClock g.M.Sockets.is_made g.M.Timer.Clock.told (g.M.Timer.Clock.told c.in-Some.timer) =
    record { timer = c.in-Some.timer; made = c.in-Some.ensures; is = refl } in
    lifted c.pair.result (λ t. record { told = _; after = _; clock = clock; texts = t }) (λ t. record { told = _; after = _; clock = clock; texts = t }) (λ n. n)
    c.pair.ensures
