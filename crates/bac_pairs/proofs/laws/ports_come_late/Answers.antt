-- By shares.
use Rattle.bac_pairs.proofs.Ports.{come_late}
use Rattle.bac_pairs.proofs.laws.ports_come_late.Goals as goal

pub returns : goal.returns
returns c = λ key one other l e. come_late key one other l e
