-- A client asks for what the words name, unless nothing listens.
use Rattle.std.proofs.Common.{rules}
use Rattle.std.proofs.lemmas.Result.{IfOk-weaker}
use Rattle.bac_points.proofs.Hearing.{asked}
use Rattle.bac_points.proofs.reading.read.Goals as goal

pub returns-clause-read : goal.returns-clause-read
returns-clause-read g c =
    IfOk-weaker c.read_by_client.result _ _
    (λ all reads. asked _ _ _ _ c.tells_unheard.ensures c.if-tells_unheard.false (record { lines = _; are = (search rules); reads = reads }))
    c.read_by_client.ensures.read
