use Rattle.std.proofs.Common.{◌≡◌, ◌<◌, length, drop, sym, ◌∙◌, arith, length-drop}
use Rattle.bac_capture.proofs.Words.{no_word_more}
use Rattle.bac_capture.proofs.sum.sum_of.Goals as goal

pub returns-clause-is : goal.returns-clause-is
returns-clause-is c =
    let at = c.loop-place in
    let few : length (drop at.place c.args.octets.now) < 2 = grind (arith, length-drop, c.loop-place-test.false) in
    sym (no_word_more at.sum (drop at.place c.args.octets.now) few) ∙ at.invariant.same
