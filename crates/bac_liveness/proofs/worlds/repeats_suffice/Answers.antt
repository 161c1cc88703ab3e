-- Repeats suffice.
use Rattle.bac_liveness.proofs.Repeating.{repeats_suffice}
use Rattle.bac_liveness.proofs.worlds.repeats_suffice.Goals as goal

pub returns : goal.returns
returns c = λ W overtake opening reached fresh timely bounded events run. repeats_suffice W overtake opening reached fresh timely bounded events run
