use Rattle.bac_plant.proofs.LongStretches.{apart_long_anew, once_ever_long_anew, once_long_anew}
use Rattle.bac_plant.proofs.Moves.{long_moves_go_on}
use Rattle.bac_plant.proofs.overtaking.long_apdus_need_no_bound_with_other_settings.Goals as goal

pub returns-clause-once : goal.returns-clause-once
returns-clause-once c = λ W overtake ever first new r. once_long_anew W overtake ever first new r

pub returns-clause-once_without_reuse : goal.returns-clause-once_without_reuse
returns-clause-once_without_reuse c = λ W overtake ever first new r none. once_ever_long_anew W overtake ever first new r none

pub returns-clause-apart : goal.returns-clause-apart
returns-clause-apart c = λ W overtake ever first new r none. apart_long_anew W overtake ever first new r none

pub returns-clause-moves : goal.returns-clause-moves
returns-clause-moves c = long_moves_go_on
