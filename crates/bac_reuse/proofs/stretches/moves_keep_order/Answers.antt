-- Each move keeps the net in order, whatever its rules.
use Rattle.bac_reuse.proofs.ReusingMoves.{in_order_so_in}
use Rattle.bac_reuse.proofs.stretches.moves_keep_order.Goals as goal

pub returns : goal.returns
returns c = λ W ever pace timely clocks reuses net reached. in_order_so_in W ever pace timely clocks reuses net reached
