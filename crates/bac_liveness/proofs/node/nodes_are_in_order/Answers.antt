-- Each node that was reached is in order.
use Rattle.bac_liveness.proofs.AtNode.{nodes_in_order}
use Rattle.bac_liveness.proofs.node.nodes_are_in_order.Goals as goal

pub returns : goal.returns
returns c = λ W overtake opening reached fresh timely bounded events run. nodes_in_order W overtake opening reached fresh timely bounded events run
