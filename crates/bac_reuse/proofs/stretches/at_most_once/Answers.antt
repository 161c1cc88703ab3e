-- The log of each run in stretches is right.
use Rattle.bac_reuse.proofs.Stored.{once_so_in}
use Rattle.bac_reuse.proofs.stretches.at_most_once.Goals as goal

pub returns : goal.returns
returns g c = λ model opening W ever nothing pace timely clocks before among stretches permitted.
    once_so_in _ model opening W ever pace timely clocks before among stretches permitted
