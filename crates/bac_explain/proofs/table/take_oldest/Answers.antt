-- The transaction with the first key is the first one.
use Rattle.std.proofs.Common.{◌∙◌}
use Rattle.bac_explain.proofs.Seen.{first_seen}
use Rattle.bac_explain.proofs.table.take_oldest.Goals as goal

pub returns-in-Some-clause-closed : goal.returns-in-Some-clause-closed
returns-in-Some-clause-closed c = c.take_out.ensures.closed ∙ (first_seen c.in-Some.key c.args.table.now.0 c.in-Some.ensures).0

pub returns-in-Some-clause-slots : goal.returns-in-Some-clause-slots
returns-in-Some-clause-slots c = c.take_out.ensures.slots ∙ (first_seen c.in-Some.key c.args.table.now.0 c.in-Some.ensures).1
