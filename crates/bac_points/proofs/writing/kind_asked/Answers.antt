-- The kind in the answer.
use Rattle.std.proofs.lemmas.Result.{IfOk-weaker}
use Rattle.bac_points.proofs.writing.kind_asked.Goals as goal

pub returns-clause-asked : goal.returns-clause-asked
returns-clause-asked g c =
    IfOk-weaker c.kind_answered.result _ _ (λ kind is. record { end = c.in_ok-end.end; asks = c.in_ok-end.ensures.asked; is = is }) c.kind_answered.ensures.kind
