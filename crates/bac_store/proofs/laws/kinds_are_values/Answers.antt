use Rattle.bac_store.proofs.KindLaws.{kind_of_value, value_of_kind}
use Rattle.bac_store.proofs.laws.kinds_are_values.Goals as goal

pub returns-clause-value : goal.returns-clause-value
returns-clause-value c = kind_of_value

pub returns-clause-only : goal.returns-clause-only
returns-clause-only c = value_of_kind
