-- The turns of stations are events.
use Rattle.bac_plant.proofs.Runs.{apart, once, once_ever}
use Rattle.bac_plant.proofs.turns_are_events.Goals as goal

pub returns-clause-once : goal.returns-clause-once
returns-clause-once c = λ W overtake old new fresh timely bounded steps run. once W overtake old new fresh timely bounded steps run

pub returns-clause-apart : goal.returns-clause-apart
returns-clause-apart c = λ W overtake old new fresh timely bounded steps run none. apart W overtake old new fresh timely bounded steps run none

pub returns-clause-once_without_reuse : goal.returns-clause-once_without_reuse
returns-clause-once_without_reuse c = λ W overtake old new fresh timely bounded steps run none.
    once_ever W overtake old new fresh timely bounded steps run none
