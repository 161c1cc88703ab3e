use Rattle.bac_protocol.proofs.OneClock.{one_clock_in_run}
use Rattle.bac_protocol.proofs.drift.one_clock_without_drift.Goals as goal

pub returns : goal.returns
returns g c = λ model rules opening events t key. one_clock_in_run _ model rules opening events t key
