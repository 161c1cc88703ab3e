-- A client asks for the objects, unless nothing listens.
use Rattle.std.proofs.lemmas.Result.{IfOk-weaker}
use Rattle.bac_points.proofs.Hearing.{asked}
use Rattle.bac_points.proofs.listing.list.Goals as goal

pub returns-clause-read : goal.returns-clause-read
returns-clause-read g c =
    IfOk-weaker c.list_by_client.result _ _ (λ all lists. asked _ _ _ _ c.tells_unheard.ensures c.if-tells_unheard.false lists)
    c.list_by_client.ensures.read
