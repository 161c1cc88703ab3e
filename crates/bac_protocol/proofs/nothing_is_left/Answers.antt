-- When nothing is left of a transaction.
use Rattle.bac_protocol.proofs.Claimed.{nothing_left_in_run}
use Rattle.bac_protocol.proofs.nothing_is_left.Goals as goal

pub returns : goal.returns
returns g c = λ model opening W rules bound pace timely clocks events. nothing_left_in_run _ model opening W rules bound pace timely clocks events
