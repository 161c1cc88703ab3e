-- Both nodes are on links that were bound.
use Rattle.bac_environment.proofs.Statuses.{lifted}
use Rattle.bac_asking.proofs.online.pair.Goals as goal

pub returns : goal.returns
returns g c =
    lifted c.pair_nodes-status.result
    (λ p. record { first = _; second = _; is_first = c.in-Ok.ensures.house; is_second = c.in-Ok-house_here.ensures.house; pairs = p })
    (λ p. record { first = _; second = _; is_first = c.in-Ok.ensures.house; is_second = c.in-Ok-house_here.ensures.house; pairs = p }) (λ n. n)
    c.pair_nodes-status.ensures
