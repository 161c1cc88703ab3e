use Rattle.std.proofs.Common.{arith}
use Rattle.std.proofs.lemmas.Bool.Decides.{nat_tests}
use Rattle.std.proofs.lemmas.Float.{not_nan_f64_bits}
use Rattle.bac_value_text.proofs.body_printing.double_text.Goals as goal

pub from_be_bytes-requires : goal.from_be_bytes-requires
from_be_bytes-requires c = not_nan_f64_bits _ (grind (arith, nat_tests, c.is_double_number.ensures))
