-- What a call promises is a step.
use Rattle.bac_plant.proofs.Next.{asks_go_on, failures_go_on, held_sends_go_on, held_turns_go_on, strangers_asked_go_on, turns_go_on}
use Rattle.bac_plant.proofs.calls_go_on.Goals as goal

pub returns-clause-turns : goal.returns-clause-turns
returns-clause-turns c = λ W overtake p r i before at full turn after t source from.
    turns_go_on W overtake p r i before at full turn after t source from

pub returns-clause-asks : goal.returns-clause-asks
returns-clause-asks c = λ W overtake p r i server before at link there limits request ticket after b.
    asks_go_on W overtake p r i server before at link there limits request ticket after b

pub returns-clause-strangers_asked : goal.returns-clause-strangers_asked
returns-clause-strangers_asked c = λ overtake p i before at peer stranger limits request ticket after b.
    strangers_asked_go_on overtake p i before at peer stranger limits request ticket after b

pub returns-clause-failures : goal.returns-clause-failures
returns-clause-failures c = λ overtake p i old new at failed. failures_go_on overtake p i old new at failed

pub returns-clause-held_turns : goal.returns-clause-held_turns
returns-clause-held_turns c = λ W overtake p r i before at full turn after t source from.
    held_turns_go_on W overtake p r i before at full turn after t source from

pub returns-clause-held_sends : goal.returns-clause-held_sends
returns-clause-held_sends c = λ overtake p i before at turns after sends. held_sends_go_on overtake p i before at turns after sends
