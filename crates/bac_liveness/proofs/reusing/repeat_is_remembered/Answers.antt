-- A repeat that is remembered.
use Rattle.bac_liveness.proofs.FreshNodes.{repeat_is_remembered}
use Rattle.bac_liveness.proofs.reusing.repeat_is_remembered.Goals as goal

pub returns : goal.returns
returns c = λ now old new o key choice limits service gets other e entry is same reply state. repeat_is_remembered now old new o key choice limits service gets other e entry is same reply state
