-- A port is read of its digits.
use Rattle.std.proofs.Common.{◌<◌, ◌^◌, arith, decimal}
use Rattle.std.specs.Str.Parse.{ParsesUnsigned, ExplainsUnsignedError, HasUnsignedDigitsIfOk}
use Rattle.bac_environment.proofs.DecimalNumbers.{bits_read}
use Rattle.bac_serving.proofs.serving_words.given_port.Goals as goal

pub returns : goal.returns
returns c =
    record {
      some = λ n small given. bits_read 16 (λ t r. ParsesUnsigned 16 10 t r × ExplainsUnsignedError 10 t r × HasUnsignedDigitsIfOk t r) n c.get_one.result
          (λ t r parsed. parsed.0) (omega (arith, small)) small (c.get_one.ensures.value (decimal n) given);
      none = c.get_one.ensures.none;
    }
