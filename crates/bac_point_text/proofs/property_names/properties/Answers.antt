use Rattle.std.proofs.Common.{refl}
use Rattle.bac_point_text.specs.PropertyNames.{LINES}
use Rattle.bac_point_text.proofs.property_names.properties.Goals as goal

pub returns : goal.returns
unfolding LINES
returns c = refl
