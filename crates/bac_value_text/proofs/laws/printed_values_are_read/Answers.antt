use Rattle.bac_value_text.proofs.Values.{values_read}
use Rattle.bac_value_text.proofs.laws.printed_values_are_read.Goals as goal

pub returns : goal.returns
returns c = values_read c.names_and_numbers_are_inverse.ensures.object_types
