use Rattle.std.proofs.Common.{refl}
use Rattle.bac_value_text.specs.RejectReasons.{REJECT_REASONS}
use Rattle.bac_value_text.proofs.reject_reasons.rows.Goals as goal

pub returns : goal.returns
unfolding REJECT_REASONS
returns c = refl
