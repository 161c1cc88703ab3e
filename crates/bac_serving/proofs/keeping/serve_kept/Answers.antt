-- Over the document, which is followed where that is told.
use Rattle.bac_environment.proofs.Statuses.{lifted}
use Rattle.bac_serving.proofs.keeping.serve_kept.Goals as goal

pub returns-in-Ok : goal.returns-in-Ok
returns-in-Ok g c =
    lifted c.serve_database.result (λ s. record { document = c.in-Ok.served.store; is = c.in-Ok.ensures.document; says = rw c.in-Ok.ensures.followed at s })
    (λ no. absurd no) (λ n. n) c.serve_database.ensures
