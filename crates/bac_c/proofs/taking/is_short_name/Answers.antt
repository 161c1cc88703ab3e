use Rattle.std.proofs.Common.{arith}
use Rattle.std.proofs.lemmas.Bool.Decides.{nat_tests}
use Rattle.bac_store.proofs.ValueData.{name_fits, fits_name}
use Rattle.bac_store.specs.Limits.{VALUE_LIMIT}
use Rattle.bac_c.proofs.Takes.{tells}
use Rattle.bac_c.proofs.taking.is_short_name.Goals as goal

pub returns : goal.returns
returns c =
    tells _ _ VALUE_LIMIT (λ t. name_fits c.args.name.now (grind (arith, nat_tests))) (λ t. let l = fits_name c.args.name.now t in grind (arith, nat_tests))
