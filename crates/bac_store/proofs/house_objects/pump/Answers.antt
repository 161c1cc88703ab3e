use Rattle.std.proofs.Common.{arith}
use Rattle.std.proofs.lemmas.Grind.{common_steps}
use Rattle.bac_store.proofs.HouseLaws.{kind_of_pump}
use Rattle.bac_store.proofs.house_objects.pump.Goals as goal

pub returns : goal.returns
returns c = grind (arith, common_steps, kind_of_pump)
