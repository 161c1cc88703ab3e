-- What is known of ages stays true.
use Rattle.bac_slots.proofs.Removed.{swept_aged}
use Rattle.bac_slots.proofs.entering.remove_dead.Goals as goal

pub returns-clause-aged : goal.returns-clause-aged
returns-clause-aged g c =
    swept_aged _ _ g.V.Aged.began g.V.Aged.IsQuiet (g.V.Aged.lives c.args.now) c.args.aged.now.ages (g.S.SlotTable.slots c.args.aged.now.table) _
    c.sweep_dead.ensures.slots c.requires.aged
