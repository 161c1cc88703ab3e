-- What is known of ages stays true.
use Rattle.bac_slots.proofs.Removed.{removed_aged}
use Rattle.bac_slots.proofs.removing.remove.Goals as goal

pub returns-clause-aged : goal.returns-clause-aged
returns-clause-aged g c =
    removed_aged _ _ g.V.Aged.began g.V.Aged.IsQuiet g.K.PartialEq.eq c.args.key.now c.args.aged.now.ages (g.S.SlotTable.slots c.args.aged.now.table) _
    c.remove.ensures.slots c.requires.aged
