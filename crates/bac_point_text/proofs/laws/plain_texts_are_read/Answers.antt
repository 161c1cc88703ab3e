use Rattle.bac_point_text.proofs.PlainTexts.{plain_written}
use Rattle.bac_point_text.proofs.laws.plain_texts_are_read.Goals as goal

pub returns : goal.returns
returns c = plain_written c.enumerations_are_inverse.ensures c.printed_values_are_read.ensures
