-- The first slot has the transaction that began first.
use Rattle.bac_explain.proofs.Seen.{over_seen, none_over}
use Rattle.bac_explain.proofs.table.is_oldest_over.Goals as goal

pub returns-in-Some : goal.returns-in-Some
returns-in-Some c = over_seen c.args.now c.args.table.now.0 _ c.is_awaited.result c.in-Some.ensures c.is_awaited.ensures

pub returns-in-None : goal.returns-in-None
returns-in-None c = none_over c.args.now c.args.table.now.0 c.in-None.ensures
