use Rattle.std.proofs.Common.{refl}
use Rattle.bac_text.specs.ServiceNames.{CONFIRMED_SERVICES}
use Rattle.bac_text.proofs.service_names.confirmed.Goals as goal

pub returns : goal.returns
unfolding CONFIRMED_SERVICES
returns c = refl
