-- What is short in the table is short in the end's slots.
use Rattle.bac_transaction.specs.Ends.{Client}
use Rattle.bac_transaction.proofs.Viewed.{each_viewed}
use Rattle.bac_requester.specs.Short.{IsHeldShort}
use Rattle.bac_requester.proofs.requester.Requester.reassemblies_are_short.Goals as goal

pub returns : goal.returns
returns g c =
    rw (← c.self.view_is) (each_viewed Client (λ (v : Client). IsHeldShort v.held) (g.S.SlotTable.slots c.self.inside.aged.table) c.each_slot.ensures)
