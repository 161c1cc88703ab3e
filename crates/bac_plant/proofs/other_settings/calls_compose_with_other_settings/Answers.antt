-- Calls one after another lead on, whatever the settings were before.
use Rattle.bac_plant.proofs.Composed.{composed_in}
use Rattle.bac_plant.proofs.other_settings.calls_compose_with_other_settings.Goals as goal

pub returns : goal.returns
returns c = composed_in
