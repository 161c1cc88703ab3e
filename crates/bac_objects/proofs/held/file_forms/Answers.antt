-- The rows in code are those of the definition.
use Rattle.std.proofs.Common.{refl}
use Rattle.bac_objects.specs.Held.{FILE_FORMS}
use Rattle.bac_objects.proofs.held.file_forms.Goals as goal

pub returns : goal.returns
unfolding FILE_FORMS
returns c = refl
