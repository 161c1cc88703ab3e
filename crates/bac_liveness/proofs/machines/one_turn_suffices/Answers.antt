use Rattle.bac_liveness.proofs.Turning.{turns}
use Rattle.bac_liveness.proofs.machines.one_turn_suffices.Goals as goal

pub returns : goal.returns
returns g c = λ model opening W rules bound pace timely clocks events. turns _ model opening W rules bound pace timely clocks events
