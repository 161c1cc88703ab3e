use Rattle.bac_shown.proofs.Showing.{shown_is_harmless}
use Rattle.bac_shown.proofs.laws.nothing_harmful_is_shown.Goals as goal

pub returns : goal.returns
returns c = shown_is_harmless
