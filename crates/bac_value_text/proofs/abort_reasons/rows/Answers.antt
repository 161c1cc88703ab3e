use Rattle.std.proofs.Common.{refl}
use Rattle.bac_value_text.specs.AbortReasons.{ABORT_REASONS}
use Rattle.bac_value_text.proofs.abort_reasons.rows.Goals as goal

pub returns : goal.returns
unfolding ABORT_REASONS
returns c = refl
