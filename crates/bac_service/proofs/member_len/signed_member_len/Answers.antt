use Rattle.std.proofs.Common.{ap, ◌∙◌, length}
use Rattle.std.specs.Int.{w64}
use Rattle.std.proofs.lemmas.Int.{to_z-of_z}
use Rattle.bac_value.specs.Number.{signed_octets}
use Rattle.bac_value.proofs.Signs.{length-signed}
use Rattle.bac_service.specs.Lengths.{member_length}
use Rattle.bac_service.proofs.member_len.signed_member_len.Goals as goal

pub returns-clause-is : goal.returns-clause-is
returns-clause-is c =
    let number = c.args.number in
    let back = to_z-of_z w64 number c.ranges.number in
    let octets = c.signed_len.ensures.len ∙ ap (λ z. length (signed_octets z)) back ∙ length-signed number in
    c.member_len.ensures ∙ ap member_length octets
