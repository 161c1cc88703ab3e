use Rattle.std.proofs.Common.{arith, ap, sym, ◌+◌, ◌∙◌, length}
use Rattle.bac_value.specs.Number.{unsigned_octets}
use Rattle.bac_apdu.proofs.Enumerated.{enumerated_few}
use Rattle.bac_apdu.proofs.lengths.enumerated_len.Goals as goal

pub returns-clause-is : goal.returns-clause-is
returns-clause-is c =
    let few = enumerated_few c.args.number c.ranges.number.fits in
    ap (λ n. 1 + n) (c.unsigned_len.ensures.len ∙ ap (λ n. length (unsigned_octets n)) c.from.ensures) ∙ sym few.0

pub returns-clause-few : goal.returns-clause-few
returns-clause-few c =
    let few = enumerated_few c.args.number c.ranges.number.fits in
    let is = ap (λ n. 1 + n) (c.unsigned_len.ensures.len ∙ ap (λ n. length (unsigned_octets n)) c.from.ensures) in
    omega (arith, is, few.0, few.1)
