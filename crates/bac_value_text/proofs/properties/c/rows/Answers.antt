use Rattle.std.proofs.Common.{refl}
use Rattle.bac_value_text.specs.Properties.{C}
use Rattle.bac_value_text.proofs.properties.c.rows.Goals as goal

pub returns : goal.returns
unfolding C
returns c = refl
