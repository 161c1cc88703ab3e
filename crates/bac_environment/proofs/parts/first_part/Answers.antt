use Rattle.std.proofs.Common.{◌≡◌, ◌∙◌, sym, ◌<◌, ◌∷◌, length, ◌+◌, take, drop, arith}
use Rattle.std.proofs.lemmas.List.{take_rest, length-drop}
use Rattle.bac_value_text.specs.Splits.{split_by}
use Rattle.bac_environment.specs.QuestionLines.{is_octet}
use Rattle.bac_environment.proofs.Separated.{at_octet}
use Rattle.bac_environment.proofs.parts.first_part.Goals as goal

pub returns-in-Some : goal.returns-in-Some
returns-in-Some c =
    let at : (c.in-Some.end < length c.args.text.now)
    × (split_by (is_octet c.args.wanted) c.args.text.now
    ≡ take c.in-Some.end c.args.text.now ∷ split_by (is_octet c.args.wanted) (drop (c.in-Some.end + 1) c.args.text.now))
    = at_octet c.args.wanted c.args.text.now c.in-Some.end (sym c.octet_in.ensures ∙ c.in-Some.is) in
    rw (take_rest c.args.text.now (c.in-Some.end + 1)) (search (arith, length-drop, at.0), at.1)
