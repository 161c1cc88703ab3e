use Rattle.bac_liveness.proofs.StraightRuns.Loops.{is_run}
use Rattle.bac_liveness.proofs.straight.straight_run_is_run.Goals as goal

pub returns : goal.returns
returns c = λ overtake old. is_run overtake old
