-- The log of each run is right.
use Rattle.bac_reuse.proofs.Stored.{once_so}
use Rattle.bac_reuse.proofs.at_most_once.Goals as goal

pub returns : goal.returns
returns g c = λ model opening W rules bound reusing nothing pace timely clocks events. once_so _ model opening W rules bound reusing pace timely clocks events
