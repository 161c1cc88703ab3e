use Rattle.bac_liveness.proofs.Endings.{all_end}
use Rattle.bac_liveness.proofs.machines.asks_end.Goals as goal

pub returns : goal.returns
returns g c = λ model opening W rules bound pace timely clocks events. all_end _ model opening W rules bound pace timely clocks events
