use Rattle.std.proofs.Common.{refl}
use Rattle.bac_value_text.specs.Properties.{D_TO_E}
use Rattle.bac_value_text.proofs.properties.d_to_e.rows.Goals as goal

pub returns : goal.returns
unfolding D_TO_E
returns c = refl
