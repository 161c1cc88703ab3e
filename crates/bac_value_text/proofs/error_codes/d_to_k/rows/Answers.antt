use Rattle.std.proofs.Common.{refl}
use Rattle.bac_value_text.specs.ErrorCodes.{D_TO_K}
use Rattle.bac_value_text.proofs.error_codes.d_to_k.rows.Goals as goal

pub returns : goal.returns
unfolding D_TO_K
returns c = refl
