-- An element without a value is no object.
use Rattle.bac_value.specs.Value.{object}
use Rattle.bac_point_report.proofs.Objects.{no_value}
use Rattle.bac_point_report.proofs.listing.object_of.Goals as goal

pub returns-in-None : goal.returns-in-None
returns-in-None c = λ i value. no_value _ _ c.in-None.is c.in_ok-value.ensures.value (object i) value
