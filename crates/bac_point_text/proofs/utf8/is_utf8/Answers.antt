use Rattle.std.proofs.Common.{◌∙◌}
use Rattle.bac_point_text.proofs.Utf8Tests.{utf8_told}
use Rattle.bac_point_text.proofs.utf8.is_utf8.Goals as goal

pub returns : goal.returns
returns c = c.is_ok.ensures.value ∙ utf8_told _ _ c.args.text.now _ c.from_utf8.ensures.cases
