use Rattle.bac_protocol.proofs.ByRules.{serves_anyway, turns_requests_away}
use Rattle.bac_protocol.proofs.serving.requests_turned_away.Goals as goal

pub returns-clause-away : goal.returns-clause-away
returns-clause-away c = turns_requests_away

pub returns-clause-anyway : goal.returns-clause-anyway
returns-clause-anyway c = serves_anyway
