use Rattle.bac_liveness.proofs.Resuming.{stopped_go_on}
use Rattle.bac_liveness.proofs.machines.stopped_reply_goes_on.Goals as goal

pub returns : goal.returns
returns g c = λ model opening W rules bound pace timely clocks events. stopped_go_on _ model opening W rules bound pace timely clocks events
