use Rattle.std.proofs.Common.{refl, rules}
use Rattle.bac_driver.proofs.pairing.pair.Goals as goal

pub returns-in-Err : goal.returns-in-Err
returns-in-Err g c = record { ended = record { first = c.in-Err.ensures.refused (search rules); second = refl }; failed = tt }
