-- By what is known of the ports after each deed.
use Rattle.bac_plant.proofs.Clients.{deeds_are_calls, deeds_are_steps, quiet_is_known}
use Rattle.bac_plant.proofs.hosts.clients_find_quiet.Goals as goal

pub returns-clause-quiet : goal.returns-clause-quiet
returns-clause-quiet c = quiet_is_known

pub returns-clause-calls : goal.returns-clause-calls
returns-clause-calls c = deeds_are_calls

pub returns-clause-steps : goal.returns-clause-steps
returns-clause-steps c = deeds_are_steps
