use Rattle.std.proofs.Common.{decimal}
use Rattle.std.specs.Str.Parse.{ParsesUnsigned, ExplainsUnsignedError, HasUnsignedDigitsIfOk}
use Rattle.bac_environment.proofs.DecimalNumbers.{number_read}
use Rattle.bac_environment.proofs.given.number_of.Goals as goal

pub returns : goal.returns
returns c =
    record {
      some = λ n small given. number_read (λ t r. ParsesUnsigned 64 10 t r × ExplainsUnsignedError 10 t r × HasUnsignedDigitsIfOk t r) n c.get_one.result
          (λ t r parsed. parsed.0) small (c.get_one.ensures.value (decimal n) given);
      none = c.get_one.ensures.none;
    }
