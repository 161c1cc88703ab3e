-- Before anything is due nothing changes; after a tick slots are in the same order, and none is due before.
use Rattle.std.proofs.Common.{◌∙◌, sym}
use Rattle.bac_slots.proofs.Aging.{between, stays, ticked_in_order}
use Rattle.bac_slots.proofs.ticking.tick.Goals as goal

pub returns-then-is_quiet-clause-slots : goal.returns-then-is_quiet-clause-slots
returns-then-is_quiet-clause-slots g c =
    stays _ _ g.V.Aged.began g.V.Aged.IsQuiet g.V.Ticks.ticked c.args.settings.now c.args.now c.ticks.ensures.rests c.args.aged.now.ages.from
    c.args.aged.now.ages.due (between c.args.aged.now.ages.from c.args.aged.now.ages.due c.args.now (sym c.is_quiet.ensures ∙ c.if-is_quiet.true))
    (g.S.SlotTable.slots c.args.aged.now.table) c.requires.quiet

pub returns-clause-aged : goal.returns-clause-aged
returns-clause-aged g c =
    record {
      quiet = c.first_due-aged.ensures.quiet;
      order = ticked_in_order _ _ g.V.Aged.began g.V.Aged.IsQuiet g.V.Ticks.ticked c.args.settings.now c.args.now c.ticks.ensures.begins
          c.args.aged.now.ages.latest (g.S.SlotTable.slots c.args.aged.now.table) _ c.tick_each.ensures.slots c.requires.order;
    }
