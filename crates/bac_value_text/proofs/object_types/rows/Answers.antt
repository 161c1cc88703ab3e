use Rattle.std.proofs.Common.{refl}
use Rattle.bac_value_text.specs.ObjectTypes.{OBJECT_TYPES}
use Rattle.bac_value_text.proofs.object_types.rows.Goals as goal

pub returns : goal.returns
unfolding OBJECT_TYPES
returns c = refl
