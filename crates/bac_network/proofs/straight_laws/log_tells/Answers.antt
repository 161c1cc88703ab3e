-- The log tells how a straight run goes.
use Rattle.bac_network.proofs.Tells.{log_tells}
use Rattle.bac_network.proofs.straight_laws.log_tells.Goals as goal

pub returns : goal.returns
returns c = λ W overtake opening old fresh bounded events run. log_tells W overtake opening old fresh bounded events run
