-- What a call promises is a step, whatever the settings were before.
use Rattle.bac_plant.proofs.Moves.{moves_go_on}
use Rattle.bac_plant.proofs.Next.{asks_go_on_in, held_turns_go_on_in, turns_go_on_in}
use Rattle.bac_plant.proofs.other_settings.calls_go_on_with_other_settings.Goals as goal

pub returns-clause-turns : goal.returns-clause-turns
returns-clause-turns c = turns_go_on_in

pub returns-clause-held_turns : goal.returns-clause-held_turns
returns-clause-held_turns c = held_turns_go_on_in

pub returns-clause-asks : goal.returns-clause-asks
returns-clause-asks c = asks_go_on_in

pub returns-clause-moves : goal.returns-clause-moves
returns-clause-moves c = moves_go_on
