use Rattle.bac_plant.proofs.LongApdus.{apart, once, once_ever}
use Rattle.bac_plant.proofs.overtaking.long_apdus_need_no_bound_on_overtaking.Goals as goal

pub returns-clause-once : goal.returns-clause-once
returns-clause-once c = λ W overtake old new fresh timely long steps asks run fits. once W overtake old new fresh timely long steps asks run fits

pub returns-clause-once_without_reuse : goal.returns-clause-once_without_reuse
returns-clause-once_without_reuse c = λ W overtake old new fresh timely long steps asks run fits none.
    once_ever W overtake old new fresh timely long steps asks run fits none

pub returns-clause-apart : goal.returns-clause-apart
returns-clause-apart c = λ W overtake old new fresh timely long steps asks run fits none. apart W overtake old new fresh timely long steps asks run fits none
