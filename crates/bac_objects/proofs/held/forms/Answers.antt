-- The rows in code are those of the definition.
use Rattle.std.proofs.Common.{refl}
use Rattle.bac_objects.specs.Held.{FORMS}
use Rattle.bac_objects.proofs.held.forms.Goals as goal

pub returns : goal.returns
unfolding FORMS
returns c = refl
