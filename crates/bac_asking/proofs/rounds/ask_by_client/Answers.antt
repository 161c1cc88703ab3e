use Rattle.bac_environment.proofs.Statuses.{lifted}
use Rattle.bac_asking.proofs.rounds.ask_by_client.Goals as goal

pub returns : goal.returns
returns g c =
    lifted c.ask_and_report-status.result
    (λ a. record { before = _; after = _; client = c.in-Ok.ensures.node; clock = c.in-Ok.ensures.clock; rounds = a })
    (λ a. record { before = _; after = _; client = c.in-Ok.ensures.node; clock = c.in-Ok.ensures.clock; rounds = a }) (λ n. n)
    c.ask_and_report-status.ensures
