-- The log of each run without asks for reads is right as ever.
use Rattle.bac_reuse.proofs.Claimed.{without_reads}
use Rattle.bac_reuse.proofs.Stored.{once_so}
use Rattle.bac_reuse.proofs.Likewise.{none_in_run}
use Rattle.bac_reuse.proofs.at_most_once_without_reads.Goals as goal

pub returns : goal.returns
returns g c = λ model opening W rules bound reusing nothing pace timely clocks events writes.
    let once = once_so _ model opening W rules bound reusing pace timely clocks events in
    without_reads _ model reusing opening _ _ (none_in_run _ model rules reusing pace clocks opening events writes once) once
