-- Each move keeps the net in order.
use Rattle.bac_reuse.proofs.ReusingMoves.{in_order_so}
use Rattle.bac_reuse.proofs.moves.moves_keep_order.Goals as goal

pub returns : goal.returns
returns c = λ W rules reusing bound pace timely clocks net reached. in_order_so W rules reusing bound pace timely clocks net reached
