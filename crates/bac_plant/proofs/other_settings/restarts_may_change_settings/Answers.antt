-- The log is right over restarts with other settings.
use Rattle.bac_plant.proofs.Anew.{apart_anew, once_anew, once_ever_anew}
use Rattle.bac_plant.proofs.other_settings.restarts_may_change_settings.Goals as goal

pub returns-clause-once : goal.returns-clause-once
returns-clause-once c = λ W overtake ever first new r. once_anew W overtake ever first new r

pub returns-clause-once_without_reuse : goal.returns-clause-once_without_reuse
returns-clause-once_without_reuse c = λ W overtake ever first new r none. once_ever_anew W overtake ever first new r none

pub returns-clause-apart : goal.returns-clause-apart
returns-clause-apart c = λ W overtake ever first new r none. apart_anew W overtake ever first new r none
