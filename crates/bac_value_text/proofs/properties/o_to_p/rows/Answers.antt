use Rattle.std.proofs.Common.{refl}
use Rattle.bac_value_text.specs.Properties.{O_TO_P}
use Rattle.bac_value_text.proofs.properties.o_to_p.rows.Goals as goal

pub returns : goal.returns
unfolding O_TO_P
returns c = refl
