use Rattle.std.proofs.Common.{refl}
use Rattle.bac_value_text.specs.Properties.{T_TO_Z}
use Rattle.bac_value_text.proofs.properties.t_to_z.rows.Goals as goal

pub returns : goal.returns
unfolding T_TO_Z
returns c = refl
