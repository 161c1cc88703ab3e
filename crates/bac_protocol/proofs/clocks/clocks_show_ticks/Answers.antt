use Rattle.bac_protocol.proofs.Ticks.{last_tick}
use Rattle.bac_protocol.proofs.clocks.clocks_show_ticks.Goals as goal

pub returns : goal.returns
returns c = last_tick
