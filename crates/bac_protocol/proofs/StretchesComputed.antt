-- The runs in which nodes restart with other settings are computed.
use Rattle.std.proofs.Common.{refl}
use Rattle.bac_protocol.specs.StretchExamples.{OtherLimits, OtherWindow}

pub other_window : OtherWindow
other_window = record { lesser = refl; same = refl; in_one = refl }

pub other_limits : OtherLimits
other_limits = refl
