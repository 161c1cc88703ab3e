-- By how much the time of day gains.
use Rattle.bac_plant.proofs.Clients.{days_are_long, pauses_are_short}
use Rattle.bac_plant.proofs.hosts.days_are_long.Goals as goal

pub returns-clause-days : goal.returns-clause-days
returns-clause-days c = days_are_long

pub returns-clause-pauses : goal.returns-clause-pauses
returns-clause-pauses c = pauses_are_short
