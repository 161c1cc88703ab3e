use Rattle.bac_apdu.proofs.Enumerated.{enumerated_value}
use Rattle.bac_apdu.proofs.laws.error_members_are_values.Goals as goal

pub returns : goal.returns
returns c = enumerated_value
