use Rattle.std.proofs.Common.{refl}
use Rattle.bac_value_text.specs.ErrorCodes.{L_TO_R}
use Rattle.bac_value_text.proofs.error_codes.l_to_r.rows.Goals as goal

pub returns : goal.returns
unfolding L_TO_R
returns c = refl
