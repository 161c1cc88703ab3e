use Rattle.std.proofs.Common.{sym, ap, ◌∙◌}
use Rattle.std.specs.Int.{w64}
use Rattle.std.proofs.lemmas.Int.{to_z-of_z}
use Rattle.bac_value.specs.Number.{half_width_of, distance}
use Rattle.bac_value.proofs.Signs.{length-signed}
use Rattle.bac_value.proofs.number_width.signed_len.Goals as goal

pub returns-clause-len : goal.returns-clause-len
returns-clause-len c =
    let back = to_z-of_z w64 c.args.number c.ranges.number in
    c.signed_octets_of.ensures.is ∙ ap half_width_of c.distance_of.ensures.is ∙ ap (λ z. half_width_of (distance z)) back ∙ sym (length-signed c.args.number)
