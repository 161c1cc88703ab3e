use Rattle.bac_plant.proofs.Next.{asks_go_on_long, held_turns_go_on_long, turns_go_on_long}
use Rattle.bac_plant.proofs.overtaking.calls_go_on_with_long_apdus.Goals as goal

pub returns-clause-turns : goal.returns-clause-turns
returns-clause-turns c = λ W overtake p r. turns_go_on_long W overtake p r

pub returns-clause-held_turns : goal.returns-clause-held_turns
returns-clause-held_turns c = λ W overtake p r. held_turns_go_on_long W overtake p r

pub returns-clause-asks : goal.returns-clause-asks
returns-clause-asks c = λ W overtake p r. asks_go_on_long W overtake p r
