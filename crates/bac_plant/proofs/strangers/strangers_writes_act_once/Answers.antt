use Rattle.bac_plant.proofs.WritesRuns.{writes_act_once}
use Rattle.bac_plant.proofs.strangers.strangers_writes_act_once.Goals as goal

-- src/lib.rt:10:1
pub returns : goal.returns
returns c = writes_act_once
