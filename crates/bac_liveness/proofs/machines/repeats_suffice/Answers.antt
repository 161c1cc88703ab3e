use Rattle.bac_liveness.proofs.Robust.{all_repeats_suffice}
use Rattle.bac_liveness.proofs.machines.repeats_suffice.Goals as goal

pub returns : goal.returns
returns g c = λ model opening W rules bound pace timely clocks events. all_repeats_suffice _ model opening W rules bound pace timely clocks events
