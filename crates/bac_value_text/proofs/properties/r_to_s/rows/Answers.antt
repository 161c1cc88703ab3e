use Rattle.std.proofs.Common.{refl}
use Rattle.bac_value_text.specs.Properties.{R_TO_S}
use Rattle.bac_value_text.proofs.properties.r_to_s.rows.Goals as goal

pub returns : goal.returns
unfolding R_TO_S
returns c = refl
