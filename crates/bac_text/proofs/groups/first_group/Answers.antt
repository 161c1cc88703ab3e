use Rattle.std.proofs.Common.{◌≡◌, ◌∙◌, sym, ◌<◌, ◌∷◌, length, ◌+◌, take, drop, arith}
use Rattle.std.proofs.lemmas.List.{take_rest, length-drop}
use Rattle.bac_text.specs.Groups.{groups_of}
use Rattle.bac_text.proofs.Gaps.{at_gap}
use Rattle.bac_text.proofs.groups.first_group.Goals as goal

pub returns-in-Some : goal.returns-in-Some
returns-in-Some c =
    let at : (c.in-Some.end < length c.args.text.now)
    × (groups_of c.args.text.now ≡ take c.in-Some.end c.args.text.now ∷ groups_of (drop (c.in-Some.end + 1) c.args.text.now))
    = at_gap c.args.text.now c.in-Some.end (sym c.gap_in.ensures ∙ c.in-Some.is) in
    rw (take_rest c.args.text.now (c.in-Some.end + 1)) (search (arith, length-drop, at.0), at.1)
