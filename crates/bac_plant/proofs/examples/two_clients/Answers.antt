-- They are computed.
use Rattle.bac_plant.proofs.ClientsComputed.{two_clients}
use Rattle.bac_plant.proofs.examples.two_clients.Goals as goal

pub returns : goal.returns
returns c = λ key port is. two_clients key port is
