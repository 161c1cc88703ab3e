-- The oldest slot's life ends first.
use Rattle.bac_responder.proofs.Waiting.{oldest_first}
use Rattle.bac_responder.proofs.moments.first_end.Goals as goal

pub returns-in-Some : goal.returns-in-Some
returns-in-Some g c =
    oldest_first c.args.aged.now.ages.latest c.in-Some.field-0 c.end_at.result (g.S.SlotTable.slots c.args.aged.now.table) c.in-Some.is c.requires.order c.end_at.ensures
