-- A table's slots are in order.
use Rattle.bac_protocol.specs.Server.{ServerTransaction}
use Rattle.bac_transaction.proofs.Viewed.{orderly_viewed}
use Rattle.bac_responder.proofs.responder.Responder.live.Goals as goal

pub returns-clause-orderly : goal.returns-clause-orderly
returns-clause-orderly g c =
    rw (← c.self.view_is) (orderly_viewed ServerTransaction (g.S.SlotTable.slots c.self.inside.aged.table) _ c.len-len.result c.len-len.ensures.distinct c.len-len.ensures.number
    c.len-len.ensures.within)
