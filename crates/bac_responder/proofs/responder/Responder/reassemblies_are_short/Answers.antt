-- What is short in the table is short in the end's slots.
use Rattle.bac_protocol.specs.Server.{ServerTransaction}
use Rattle.bac_transaction.proofs.Viewed.{each_viewed}
use Rattle.bac_responder.specs.Short.{IsRequestShort}
use Rattle.bac_responder.proofs.responder.Responder.reassemblies_are_short.Goals as goal

pub returns : goal.returns
returns g c = rw (← c.self.view_is) (each_viewed ServerTransaction IsRequestShort (g.S.SlotTable.slots c.self.inside.aged.table) c.each_slot.ensures)
