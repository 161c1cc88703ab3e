use Rattle.std.proofs.Common.{refl}
use Rattle.bac_text.specs.ServiceNames.{NETWORK_MESSAGES}
use Rattle.bac_text.proofs.service_names.messages.Goals as goal

pub returns : goal.returns
unfolding NETWORK_MESSAGES
returns c = refl
