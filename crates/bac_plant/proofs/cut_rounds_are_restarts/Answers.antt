-- Power cuts are restarts of stations.
use Rattle.bac_plant.proofs.Cut.{cut_apart, cut_by_requests, cut_once, cut_once_ever}
use Rattle.bac_plant.proofs.cut_rounds_are_restarts.Goals as goal

pub returns-clause-once : goal.returns-clause-once
returns-clause-once c = λ W overtake old new fresh timely bounded steps run. cut_once W overtake old new fresh timely bounded steps run

pub returns-clause-by_requests : goal.returns-clause-by_requests
returns-clause-by_requests c = λ W overtake old new fresh timely bounded steps run none k.
    cut_by_requests W overtake old new fresh timely bounded steps run none k

pub returns-clause-once_without_reuse : goal.returns-clause-once_without_reuse
returns-clause-once_without_reuse c = λ W overtake old new fresh timely bounded steps run none.
    cut_once_ever W overtake old new fresh timely bounded steps run none

pub returns-clause-apart : goal.returns-clause-apart
returns-clause-apart c = λ W overtake old new fresh timely bounded steps run none. cut_apart W overtake old new fresh timely bounded steps run none
