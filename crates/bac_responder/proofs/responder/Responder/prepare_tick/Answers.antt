-- Before anything is due nothing is sent.
use Rattle.std.proofs.Common.{◌∙◌, sym}
use Rattle.bac_slots.proofs.Aging.{between}
use Rattle.bac_responder.proofs.Ticks.{nothing_due}
use Rattle.bac_responder.proofs.responder.Responder.prepare_tick.Goals as goal

pub returns-then-is_quiet : goal.returns-then-is_quiet
returns-then-is_quiet g c =
    let within = between c.self.inside.aged.ages.from c.self.inside.aged.ages.due c.args.now (sym c.is_quiet.ensures ∙ c.if-is_quiet.true) in
    rw (← c.self.view_is) (nothing_due c.args.settings.now c.args.now c.self.inside.aged.ages.from c.self.inside.aged.ages.due within.0 within.1
    (g.S.SlotTable.slots c.self.inside.aged.table) (g.S.SlotTable.capacity c.self.inside.aged.table) c.self.inside.restart c.nothing_due.result.items c.self.invariant.0.quiet
    c.nothing_due.ensures)
