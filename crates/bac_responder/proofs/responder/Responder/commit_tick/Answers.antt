-- All entries have gone on, those that are not live are gone, and the others keep no more.
use Rattle.std.proofs.Common.{ap, arith, subst, sym}
use Rattle.bac_transaction.specs.Tables.{AreLive}
use Rattle.bac_transaction.specs.Views.{settings_view, slots_view}
use Rattle.bac_transaction.proofs.ServerTables.{ticks_leave_live}
use Rattle.bac_responder.specs.Kept.{kept_octets}
use Rattle.bac_responder.specs.Views.{end_of}
use Rattle.bac_responder.proofs.KeptTables.{tick_keeps}
use Rattle.bac_responder.proofs.KeptWithin.{ticked_within}
use Rattle.bac_responder.proofs.Ticks.{committed, left_viewed}
use Rattle.bac_responder.proofs.responder.Responder.commit_tick.Goals as goal

pub returns-clause-ticked : goal.returns-clause-ticked
returns-clause-ticked g c =
    rw (← c.self.view_is) (committed c.args.settings.now c.args.now (g.S.SlotTable.slots c.self.inside.aged.table)
    (g.S.SlotTable.slots c.tick.new.aged.table) (g.S.SlotTable.slots c.remove_dead.new.aged.table) (g.S.SlotTable.capacity c.self.inside.aged.table)
    (g.S.SlotTable.capacity c.tick.new.aged.table) (g.S.SlotTable.capacity c.remove_dead.new.aged.table) c.self.inside.restart
    c.tick.ensures.slots c.remove_dead.ensures.slots c.tick.ensures.same c.remove_dead.ensures.same)

pub returns-clause-live : goal.returns-clause-live
returns-clause-live g c =
    let old = g.S.SlotTable.slots c.self.inside.aged.table in
    subst (AreLive c.args.now) (sym (left_viewed c.args.settings.now c.args.now old (g.S.SlotTable.slots c.tick.new.aged.table)
    (g.S.SlotTable.slots c.remove_dead.new.aged.table) c.tick.ensures.slots c.remove_dead.ensures.slots))
    (ticks_leave_live (settings_view c.args.settings.now) c.args.now (end_of old 0 c.self.inside.restart))

pub returns-clause-kept : goal.returns-clause-kept
returns-clause-kept g c =
    let old = g.S.SlotTable.slots c.self.inside.aged.table in
    let left = ap kept_octets (left_viewed c.args.settings.now c.args.now old (g.S.SlotTable.slots c.tick.new.aged.table)
    (g.S.SlotTable.slots c.remove_dead.new.aged.table) c.tick.ensures.slots c.remove_dead.ensures.slots) in
    let less = tick_keeps (settings_view c.args.settings.now) c.args.now (end_of old 0 c.self.inside.restart) in
    rw (← c.self.view_is) (omega (arith, left, less))

pub invariant_of-self : goal.invariant_of-self
invariant_of-self g c =
    let old = g.S.SlotTable.slots c.self.inside.aged.table in
    let new = g.S.SlotTable.slots c.remove_dead.new.aged.table in (
      c.remove_dead.ensures.aged,
      c.without-self-inside.ensures (kept_octets (slots_view old)) (kept_octets (slots_view new)) c.self.invariant.1
          (ticked_within c.args.settings.now c.args.now old (g.S.SlotTable.slots c.tick.new.aged.table) new c.given_back-given_back.result
          c.tick.ensures.slots c.remove_dead.ensures.slots c.given_back-given_back.ensures),
    )
