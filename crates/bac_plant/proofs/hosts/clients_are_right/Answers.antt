-- What they do is calls, which lead the run on.
use Rattle.bac_plant.proofs.Clients.{deeds_are_right}
use Rattle.bac_plant.proofs.hosts.clients_are_right.Goals as goal

pub returns : goal.returns
returns c = deeds_are_right
