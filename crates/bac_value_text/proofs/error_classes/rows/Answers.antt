use Rattle.std.proofs.Common.{refl}
use Rattle.bac_value_text.specs.ErrorClasses.{ERROR_CLASSES}
use Rattle.bac_value_text.proofs.error_classes.rows.Goals as goal

pub returns : goal.returns
unfolding ERROR_CLASSES
returns c = refl
