-- At any port.
use Rattle.std.proofs.lemmas.Result.{IfOk-weaker}
use Rattle.bac_points.proofs.writing.write_by_client.Goals as goal

pub returns-clause-written : goal.returns-clause-written
returns-clause-written g c =
    IfOk-weaker c.write_order-written.result _ _
    (λ done writes. record { before = _; after = _; client = c.in_ok-client.ensures.node; clock = c.in_ok-client.ensures.clock; writes = writes })
    c.write_order-written.ensures.written
