use Rattle.bac_point_text.proofs.Rows.{all_inverse}
use Rattle.bac_point_text.proofs.laws.enumerations_are_inverse.Goals as goal

pub returns : goal.returns
returns c = all_inverse c.names_and_numbers_are_inverse.ensures.object_types c.names_and_numbers_are_inverse.ensures.properties
