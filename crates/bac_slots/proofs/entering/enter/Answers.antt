-- What is known of ages, with one more slot.
use Rattle.std.proofs.Common.{◌∙◌, ◌∷◌, ◌++◌, [], ap}
use Rattle.bac_slots.specs.Ages.{later_of}
use Rattle.bac_slots.specs.declared.ages.Ages.{Ages}
use Rattle.bac_slots.proofs.Aging.{entered}
use Rattle.bac_slots.proofs.entering.enter.Goals as goal

pub returns-clause-aged : goal.returns-clause-aged
returns-clause-aged g c =
    entered _ _ g.V.Aged.began g.V.Aged.IsQuiet (g.V.Aged.lives c.args.now) c.ages.ensures.earlier c.args.aged.now.ages _ c.args.now c.due-due.result
    c.args.key c.args.value (g.S.SlotTable.slots c.args.aged.now.table) _ c.requires.begins c.due-due.ensures.quiet
    (c.put.ensures.slots ∙ ap (λ l. l ++ record { key = c.args.key; begin = c.args.now; value = c.args.value } ∷ []) c.sweep_dead.ensures.slots)
    (c.comes.ensures.latest ∙ ap (λ (a : Ages). record a { latest = later_of a.latest c.args.now }) c.comes_due.ensures) c.requires.aged
