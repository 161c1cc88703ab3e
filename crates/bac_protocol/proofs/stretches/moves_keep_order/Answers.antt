-- Each move keeps the net in order, whatever its rules.
use Rattle.bac_protocol.proofs.Stretched.{in_order_in}
use Rattle.bac_protocol.proofs.stretches.moves_keep_order.Goals as goal

pub returns : goal.returns
returns c = λ W pace timely clocks net reached. in_order_in W pace timely clocks net reached
