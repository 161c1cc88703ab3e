use Rattle.std.proofs.Common.{◌≡◌, ◌∙◌, sym, ◌<◌, ◌∷◌, length, ◌+◌, take, drop, arith}
use Rattle.std.proofs.lemmas.List.{take_rest, length-drop, length-take}
use Rattle.bac_forms.specs.Base64.{lines_of}
use Rattle.bac_forms.proofs.TextLines.{at_an_end}
use Rattle.bac_forms.proofs.lines.first_line.Goals as goal

pub returns-in-Some : goal.returns-in-Some
returns-in-Some c =
    let at : (c.in-Some.end < length c.args.text.now)
    × (lines_of c.args.text.now ≡ take c.in-Some.end c.args.text.now ∷ lines_of (drop (c.in-Some.end + 1) c.args.text.now))
    = at_an_end c.args.text.now c.in-Some.end (sym c.end_in.ensures ∙ c.in-Some.is) in
    rw (take_rest c.args.text.now (c.in-Some.end + 1)) (search (arith, length-take, length-drop, at.0), at.1)
