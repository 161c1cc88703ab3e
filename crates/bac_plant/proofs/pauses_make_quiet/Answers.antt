-- By how long it sends for what it asked before.
use Rattle.bac_plant.proofs.Pauses.{falls_quiet}
use Rattle.bac_plant.proofs.pauses_make_quiet.Goals as goal

pub returns : goal.returns
returns c = λ W overtake station p r steps new run none passed. falls_quiet station W overtake p r steps new run none passed
