-- A request that is performed.
use Rattle.bac_liveness.proofs.FreshNodes.{request_is_performed}
use Rattle.bac_liveness.proofs.reusing.request_is_performed.Goals as goal

pub returns : goal.returns
returns c = λ now old new o key limits service r gets serves spelled reply outcome in_one. request_is_performed now old new o key limits service r gets serves spelled reply outcome in_one
