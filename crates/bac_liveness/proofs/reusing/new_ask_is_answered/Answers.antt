-- A new ask is answered.
use Rattle.bac_liveness.proofs.NewAsks.{new_ask_is_answered}
use Rattle.bac_liveness.proofs.reusing.new_ask_is_answered.Goals as goal

pub returns : goal.returns
returns c = λ u W overtake opening reached fresh timely bounded events run. new_ask_is_answered u W overtake opening reached fresh timely bounded events run
