use Rattle.bac_liveness.proofs.Standing.{answering_run}
use Rattle.bac_liveness.proofs.machines.answering_run_exists.Goals as goal

pub returns : goal.returns
returns g c = λ model opening W rules bound pace timely clocks events. answering_run _ model opening W rules bound pace timely clocks events
