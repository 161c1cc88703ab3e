use Rattle.std.proofs.Common.{◌≡◌, ◌∙◌, sym, ◌<◌, ◌∷◌, length, ◌+◌, take, drop, arith}
use Rattle.std.proofs.lemmas.List.{take_rest, length-drop}
use Rattle.bac_simulate.specs.LineWords.{words_of}
use Rattle.bac_simulate.proofs.Separated.{at_space}
use Rattle.bac_simulate.proofs.line_words.first_word.Goals as goal

pub returns-in-Some : goal.returns-in-Some
returns-in-Some c =
    let at : (c.in-Some.end < length c.args.line.now)
    × (words_of c.args.line.now ≡ take c.in-Some.end c.args.line.now ∷ words_of (drop (c.in-Some.end + 1) c.args.line.now))
    = at_space c.args.line.now c.in-Some.end (sym c.space_in.ensures ∙ c.in-Some.is) in
    rw (take_rest c.args.line.now (c.in-Some.end + 1)) (search (arith, length-drop, at.0), at.1)
