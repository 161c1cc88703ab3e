use Rattle.bac_liveness.proofs.StraightRuns.Reached.{copies_own}
use Rattle.bac_liveness.proofs.straight.straight_copies_are_its_own.Goals as goal

pub returns : goal.returns
returns c = λ W overtake first old fresh timely bound events run. copies_own W overtake first old fresh timely bound events run
