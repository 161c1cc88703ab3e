-- The log of each run in stretches is right.
use Rattle.bac_protocol.proofs.Stretched.{once_in}
use Rattle.bac_protocol.proofs.stretches.at_most_once.Goals as goal

pub returns : goal.returns
returns g c = λ model opening W stretches bounded pace timely clocks. once_in _ model opening W stretches bounded pace timely clocks
