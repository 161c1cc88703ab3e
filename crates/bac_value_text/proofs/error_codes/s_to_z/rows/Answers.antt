use Rattle.std.proofs.Common.{refl}
use Rattle.bac_value_text.specs.ErrorCodes.{S_TO_Z}
use Rattle.bac_value_text.proofs.error_codes.s_to_z.rows.Goals as goal

pub returns : goal.returns
unfolding S_TO_Z
returns c = refl
