-- Calls one after another are a run.
use Rattle.bac_plant.proofs.Composed.{composed}
use Rattle.bac_plant.proofs.calls_compose.Goals as goal

pub returns : goal.returns
returns c = λ W overtake first fresh timely bounded so_far p run later calls. composed W overtake first fresh timely bounded so_far p run later calls
