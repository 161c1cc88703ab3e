use Rattle.bac_value.specs.Value.{unsigned}
use Rattle.bac_store.proofs.ArrayLaws.{on_any}
use Rattle.bac_store.proofs.ReplySizes.{value_some}
use Rattle.bac_store.proofs.arrays.number.Goals as goal

pub returns-clause-held : goal.returns-clause-held
returns-clause-held c = on_any c.spelled.result (value_some (unsigned c.args.count))
