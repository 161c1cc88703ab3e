use Rattle.bac_liveness.proofs.Endings.{endings_in_run}
use Rattle.bac_liveness.proofs.machines.endings_are_logged.Goals as goal

pub returns : goal.returns
returns g c = λ model opening W rules bound pace timely clocks events. endings_in_run _ model opening W rules bound pace timely clocks events
