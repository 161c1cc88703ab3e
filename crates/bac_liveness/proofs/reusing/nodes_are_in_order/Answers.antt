-- Each node that was reached is in order.
use Rattle.bac_liveness.proofs.AtNode.{nodes_in_order_so}
use Rattle.bac_liveness.proofs.reusing.nodes_are_in_order.Goals as goal

pub returns : goal.returns
returns c = λ u W overtake opening reached fresh timely bounded events run. nodes_in_order_so u W overtake opening reached fresh timely bounded events run
