use Rattle.bac_protocol.proofs.ByRules.{performs_where_ended}
use Rattle.bac_protocol.proofs.serving.performs_where_ended.Goals as goal

pub returns : goal.returns
returns c = performs_where_ended
