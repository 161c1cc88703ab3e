use Rattle.std.proofs.Common.{◌≡◌, ◌++◌, map, length}
use Rattle.bac_simulate.specs.LineWords.{words_of}
use Rattle.bac_simulate.proofs.line_words.words_in.Given as goal

abbrev pub invariant-loop-word : goal.invariant-loop-word
invariant-loop-word l = map (λ w. w.now) l.words.items ++ words_of l.rest ≡ words_of l.fn.line

abbrev pub decreases-loop-word : goal.decreases-loop-word
decreases-loop-word l = length l.rest
