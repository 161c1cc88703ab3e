-- Each ask ends.
use Rattle.bac_liveness.proofs.EitherEndings.{asks_end}
use Rattle.bac_liveness.proofs.worlds.asks_end.Goals as goal

pub returns : goal.returns
returns c = λ W overtake opening reached fresh timely bounded events run. asks_end W overtake opening reached fresh timely bounded events run
