use Rattle.bac_point_text.proofs.AllRows.{all_listed}
use Rattle.bac_point_text.proofs.laws.enumerations_are_listed.Goals as goal

pub returns : goal.returns
returns c = all_listed c.enumerations_are_inverse.ensures
