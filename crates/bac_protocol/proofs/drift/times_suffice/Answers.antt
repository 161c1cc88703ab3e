use Rattle.bac_protocol.proofs.Sufficing.{times_suffice}
use Rattle.bac_protocol.proofs.drift.times_suffice.Goals as goal

pub returns : goal.returns
returns c = λ p ticks some second fits. times_suffice p ticks some second fits
