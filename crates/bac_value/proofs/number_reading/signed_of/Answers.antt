use Rattle.std.proofs.Common.{arith, ap, sym, ◌∙◌, ◌≡◌, ◌*◌, ◌+◌, ◌-◌, ◌^◌, ◌/◌, length}
use Rattle.bac_value.specs.Number.{number_in}
use Rattle.bac_value.proofs.Numbers.{bits_power}
use Rattle.bac_value.proofs.Signs.{upper_half}
use Rattle.bac_value.proofs.number_reading.signed_of.Goals as goal

pub overflow_sub-result : goal.overflow_sub-result
overflow_sub-result g c =
    let k = length (g.O.Octets.octets c.args.octets) in
    let whole : c.greatest_in-greatest.result + 1 ≡ 2 ^ (8 * k) = c.greatest_in-greatest.ensures.whole ∙ ap (λ n. 256 ^ n) c.len.ensures.count
    ∙ sym (bits_power k) in
    omega (arith, c.number_of-number.ensures.small, whole, bits_power k)

pub returns-else-number-greatest : goal.returns-else-number-greatest
returns-else-number-greatest g c =
    let k = length (g.O.Octets.octets c.args.octets) in
    let whole : c.greatest_in-greatest.result + 1 ≡ 2 ^ (8 * k) = c.greatest_in-greatest.ensures.whole ∙ ap (λ n. 256 ^ n) c.len.ensures.count
    ∙ sym (bits_power k) in
    let half : c.greatest_in-greatest.result / 2 + 1 ≡ 2 ^ (8 * k - 1) = c.greatest_in-greatest.ensures.half ∙ ap (λ n. 2 ^ (8 * n - 1)) c.len.ensures.count in
    let is : c.number_of-number.result ≡ number_in (g.O.Octets.octets c.args.octets) = c.number_of-number.ensures.is in
    rw (← is) (upper_half c.number_of-number.result c.greatest_in-greatest.result (2 ^ (8 * k - 1)) (2 ^ (8 * k))
    (omega (arith, c.number_of-number.ensures.small, whole, bits_power k)) c.if-number-greatest.false (omega arith) whole half)
