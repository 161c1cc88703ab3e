use Rattle.std.proofs.Common.{sym, ◌∙◌}
use Rattle.bac_value.proofs.Numbers.{length-unsigned}
use Rattle.bac_value.proofs.number_width.unsigned_len.Goals as goal

pub returns-clause-len : goal.returns-clause-len
returns-clause-len c = c.octets_of.ensures.is ∙ sym (length-unsigned c.args.number)
