-- Each ask ends.
use Rattle.bac_liveness.proofs.EitherEndings.{asks_end_so}
use Rattle.bac_liveness.proofs.reusing.asks_end.Goals as goal

pub returns : goal.returns
returns c = λ u W overtake opening reached fresh timely bounded events run. asks_end_so u W overtake opening reached fresh timely bounded events run
