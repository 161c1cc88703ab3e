use Rattle.std.proofs.Common.{refl}
use Rattle.bac_value_text.specs.Properties.{A_TO_B}
use Rattle.bac_value_text.proofs.properties.a_to_b.rows.Goals as goal

pub returns : goal.returns
unfolding A_TO_B
returns c = refl
