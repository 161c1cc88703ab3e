-- All slots have gone on.
use Rattle.bac_protocol.specs.declared.times.TheConstants.{REST}
use Rattle.bac_transaction.specs.Ends.{first_after}
use Rattle.bac_requester.proofs.Ticks.{committed}
use Rattle.bac_requester.proofs.requester.Requester.commit_tick.Goals as goal

pub returns : goal.returns
returns g c =
    rw (← c.self.view_is) (committed c.args.settings.now c.args.now (g.S.SlotTable.slots c.self.inside.aged.table)
    (g.S.SlotTable.slots c.tick.new.aged.table) (g.S.SlotTable.capacity c.self.inside.aged.table) (g.S.SlotTable.capacity c.tick.new.aged.table)
    c.self.inside.asked (first_after REST c.self.inside.restart) c.self.inside.first_id c.tick.ensures.slots c.tick.ensures.same)
