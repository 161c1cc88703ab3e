use Rattle.bac_liveness.proofs.Standing.{after_any_past}
use Rattle.bac_liveness.proofs.machines.after_any_past.Goals as goal

pub returns : goal.returns
returns g c = λ model opening W rules bound pace timely clocks events. after_any_past _ model opening W rules bound pace timely clocks events
