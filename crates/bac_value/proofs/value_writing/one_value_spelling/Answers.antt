use Rattle.bac_value.proofs.OneSpelling.{value_only, values_apart}
use Rattle.bac_value.proofs.value_writing.one_value_spelling.Goals as goal

pub returns : goal.returns
returns c = record { only = value_only; apart = values_apart }
