use Rattle.bac_liveness.proofs.StraightRuns.Reached.{free_unused}
use Rattle.bac_liveness.proofs.tables.free_ids_are_unused.Goals as goal

pub returns : goal.returns
returns c = λ W overtake first old fresh timely bound events run. free_unused W overtake first old fresh timely bound events run
