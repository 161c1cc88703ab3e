use Rattle.std.proofs.Common.{◌∙◌, arith, sym}
use Rattle.bac_json.proofs.Sole.{not_one}
use Rattle.bac_json.proofs.value.sole_member.Goals as goal

pub returns-in-len2-up : goal.returns-in-len2-up
returns-in-len2-up c = c.nothing.ensures ∙ sym (not_one c.args.name.now c.args.elements.now (omega (arith, c.in-len2-up.len_at_least)))
