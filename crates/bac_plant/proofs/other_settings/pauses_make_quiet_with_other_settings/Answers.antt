-- By how long it sends for what it asked before, whatever the settings were.
use Rattle.bac_plant.proofs.Pauses.{falls_quiet_in}
use Rattle.bac_plant.proofs.other_settings.pauses_make_quiet_with_other_settings.Goals as goal

pub returns : goal.returns
returns c = falls_quiet_in
