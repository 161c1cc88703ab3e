use Rattle.std.proofs.Common.{refl}
use Rattle.bac_value_text.specs.Properties.{F_TO_L}
use Rattle.bac_value_text.proofs.properties.f_to_l.rows.Goals as goal

pub returns : goal.returns
unfolding F_TO_L
returns c = refl
