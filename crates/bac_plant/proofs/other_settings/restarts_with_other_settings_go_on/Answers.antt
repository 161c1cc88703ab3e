-- Restarts with other settings can happen next.
use Rattle.bac_plant.proofs.Anew.{restarts_anew_go_on, starts_anew_go_on}
use Rattle.bac_plant.proofs.other_settings.restarts_with_other_settings_go_on.Goals as goal

pub returns-clause-restarts : goal.returns-clause-restarts
returns-clause-restarts c = restarts_anew_go_on

pub returns-clause-starts : goal.returns-clause-starts
returns-clause-starts c = starts_anew_go_on
