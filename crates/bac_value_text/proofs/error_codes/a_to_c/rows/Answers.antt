use Rattle.std.proofs.Common.{refl}
use Rattle.bac_value_text.specs.ErrorCodes.{A_TO_C}
use Rattle.bac_value_text.proofs.error_codes.a_to_c.rows.Goals as goal

pub returns : goal.returns
unfolding A_TO_C
returns c = refl
