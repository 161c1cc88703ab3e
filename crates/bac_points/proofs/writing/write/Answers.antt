-- What the words order is written by a client, unless nothing listens.
use Rattle.std.proofs.lemmas.Result.{IfOk-weaker}
use Rattle.bac_points.proofs.Hearing.{asked}
use Rattle.bac_points.proofs.writing.write.Goals as goal

pub returns-clause-written : goal.returns-clause-written
returns-clause-written g c =
    IfOk-weaker c.write_by_client.result _ _
    (λ done writes. asked _ _ _ _ c.tells_unheard.ensures c.if-tells_unheard.false
    (record { order = _; is = c.in_ok-order.ensures.read; writes = writes }))
    c.write_by_client.ensures.written
