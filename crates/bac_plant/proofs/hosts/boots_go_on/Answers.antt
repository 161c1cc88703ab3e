-- Of the ports of other hosts the same is known.
use Rattle.bac_plant.proofs.Clients.{boots_go_on}
use Rattle.bac_plant.proofs.hosts.boots_go_on.Goals as goal

pub returns : goal.returns
returns c = boots_go_on
