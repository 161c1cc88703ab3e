use Rattle.bac_liveness.proofs.Standing.{ends_in_step}
use Rattle.bac_liveness.proofs.machines.ends_are_in_step.Goals as goal

pub returns : goal.returns
returns g c = λ model opening W rules bound pace timely clocks events. ends_in_step _ model opening W rules bound pace timely clocks events
