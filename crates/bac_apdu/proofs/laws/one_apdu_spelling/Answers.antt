use Rattle.bac_apdu.proofs.Apdus.{apdu_one}
use Rattle.bac_apdu.proofs.laws.one_apdu_spelling.Goals as goal

pub returns : goal.returns
returns c = apdu_one
