-- What is written as a value of that kind.
use Rattle.std.proofs.lemmas.Result.{IfOk-weaker}
use Rattle.bac_points.proofs.writing.write_order.Goals as goal

pub returns-clause-written : goal.returns-clause-written
returns-clause-written g c =
    IfOk-weaker c.write_as.result _ _ (λ done writes. record { kind = c.in_ok-kind.kind; middle = _; finds = c.in_ok-kind.ensures.found; writes = writes })
    c.write_as.ensures.written
