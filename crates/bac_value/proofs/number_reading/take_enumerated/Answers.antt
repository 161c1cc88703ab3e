use Rattle.std.proofs.Common.{arith}
use Rattle.bac_value.proofs.Numbers.{few_octets}
use Rattle.bac_value.proofs.RightContents.{between}
use Rattle.bac_value.proofs.number_reading.take_enumerated.Goals as goal

pub overflow_cast-result : goal.overflow_cast-result
overflow_cast-result g c =
    let xs = g.O.Octets.octets c.in_ok-contents.contents in
    let sized = c.in_ok-contents.ensures.sized in
    let few = between 0 5 c.args.len sized.1 in
    omega (arith, few_octets xs 4 c.number_of-number.result (omega (arith, few.1, sized.0)) c.number_of-number.ensures.small)
