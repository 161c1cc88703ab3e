-- Before anything is due nothing is sent or ended.
use Rattle.std.proofs.Common.{◌∙◌, sym}
use Rattle.bac_protocol.specs.declared.times.TheConstants.{REST}
use Rattle.bac_transaction.specs.Ends.{first_after}
use Rattle.bac_slots.proofs.Aging.{between}
use Rattle.bac_requester.proofs.Ticks.{nothing_due}
use Rattle.bac_requester.proofs.requester.Requester.prepare_tick.Goals as goal

pub returns-then-is_quiet : goal.returns-then-is_quiet
returns-then-is_quiet g c =
    let within = between c.self.inside.aged.ages.from c.self.inside.aged.ages.due c.args.now (sym c.is_quiet.ensures ∙ c.if-is_quiet.true) in
    rw (← c.self.view_is) (nothing_due c.args.settings.now c.args.now c.self.inside.aged.ages.from c.self.inside.aged.ages.due within.1
    (g.S.SlotTable.slots c.self.inside.aged.table) (g.S.SlotTable.capacity c.self.inside.aged.table) c.self.inside.asked (first_after REST c.self.inside.restart) c.self.inside.first_id
    c.nothing.result c.self.invariant.0.quiet c.nothing.ensures.sends c.nothing.ensures.ended)
