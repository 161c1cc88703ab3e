use Rattle.bac_liveness.proofs.AnyTurn.{in_step_is_answered}
use Rattle.bac_liveness.proofs.machines.in_step_is_answered.Goals as goal

pub returns : goal.returns
returns g c = λ model opening W rules bound pace timely clocks events. in_step_is_answered _ model opening W rules bound pace timely clocks events
