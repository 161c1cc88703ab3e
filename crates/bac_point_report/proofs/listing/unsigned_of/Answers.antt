-- An element without a value is no number.
use Rattle.bac_value.specs.Value.{unsigned}
use Rattle.bac_point_report.proofs.Objects.{no_value}
use Rattle.bac_point_report.proofs.listing.unsigned_of.Goals as goal

pub returns-in-None : goal.returns-in-None
returns-in-None c = λ n value. no_value _ _ c.in-None.is c.in_ok-value.ensures.value (unsigned n) value
