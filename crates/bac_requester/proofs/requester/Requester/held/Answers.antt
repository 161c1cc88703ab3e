-- A table's slots are in order.
use Rattle.bac_transaction.specs.Ends.{Client}
use Rattle.bac_transaction.proofs.Viewed.{orderly_viewed}
use Rattle.bac_requester.proofs.requester.Requester.held.Goals as goal

pub returns-clause-orderly : goal.returns-clause-orderly
returns-clause-orderly g c =
    rw (← c.self.view_is) (orderly_viewed Client (g.S.SlotTable.slots c.self.inside.aged.table) _ c.len-len.result c.len-len.ensures.distinct
    c.len-len.ensures.number c.len-len.ensures.within)
