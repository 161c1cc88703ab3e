use Rattle.bac_liveness.proofs.StraightRuns.Reached.{straight_answers}
use Rattle.bac_liveness.proofs.straight.straight_run_answers.Goals as goal

pub returns : goal.returns
returns c = λ W overtake first old fresh timely bound events run. straight_answers W overtake first old fresh timely bound events run
