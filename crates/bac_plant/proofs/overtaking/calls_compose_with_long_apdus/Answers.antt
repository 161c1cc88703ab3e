use Rattle.bac_plant.proofs.Composed.{composed_long}
use Rattle.bac_plant.proofs.overtaking.calls_compose_with_long_apdus.Goals as goal

pub returns : goal.returns
returns c = λ W overtake first fresh timely long so_far asked p run later asks calls fit.
    composed_long W overtake first fresh timely long so_far asked p run later asks calls fit
