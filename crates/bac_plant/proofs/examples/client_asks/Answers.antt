-- It is computed.
use Rattle.bac_plant.proofs.ClientAsks.{client_asks}
use Rattle.bac_plant.proofs.examples.client_asks.Goals as goal

pub returns : goal.returns
returns c = λ key port is. client_asks key port is
