use Rattle.bac_service.proofs.Wholes.{one_spelling, one_request}
use Rattle.bac_service.proofs.laws.one_request_spelling.Goals as goal

pub returns : goal.returns
returns c = record { only = one_spelling; apart = one_request }
