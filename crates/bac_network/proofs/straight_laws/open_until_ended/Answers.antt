-- The ticket is open as long as the log has no ending of its ask.
use Rattle.bac_network.proofs.Open.{open_until_ended}
use Rattle.bac_network.proofs.straight_laws.open_until_ended.Goals as goal

pub returns : goal.returns
returns c = λ W overtake opening old fresh bounded events run. open_until_ended W overtake opening old fresh bounded events run
