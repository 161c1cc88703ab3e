use Rattle.std.proofs.Common.{refl}
use Rattle.bac_text.specs.ServiceNames.{UNCONFIRMED_SERVICES}
use Rattle.bac_text.proofs.service_names.unconfirmed.Goals as goal

pub returns : goal.returns
unfolding UNCONFIRMED_SERVICES
returns c = refl
