use Rattle.std.proofs.Common.{refl}
use Rattle.bac_value_text.specs.Properties.{M_TO_N}
use Rattle.bac_value_text.proofs.properties.m_to_n.rows.Goals as goal

pub returns : goal.returns
unfolding M_TO_N
returns c = refl
