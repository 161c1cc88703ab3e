use Rattle.std.proofs.Common.{◌≡◌, ◌∙◌, ◌==◌, true, arith}
use Rattle.std.proofs.lemmas.Bool.Decides.{nat_tests}
use Rattle.bac_value_text.proofs.Characters.{utf8_told}
use Rattle.bac_value_text.proofs.body_printing.is_text.Goals as goal

pub returns-then-set-eq0 : goal.returns-then-set-eq0
returns-then-set-eq0 c =
    let zero_set : (c.args.set == 0) ≡ true = grind (arith, nat_tests) in
    rw zero_set (c.is_ok.ensures.value ∙ utf8_told _ _ c.args.text.now _ c.from_utf8.ensures.cases)
