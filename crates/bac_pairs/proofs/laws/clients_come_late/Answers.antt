-- By shares.
use Rattle.bac_pairs.proofs.Ports.{apart}
use Rattle.bac_pairs.proofs.laws.clients_come_late.Goals as goal

pub returns : goal.returns
returns c = λ key clients turn. apart key clients turn
