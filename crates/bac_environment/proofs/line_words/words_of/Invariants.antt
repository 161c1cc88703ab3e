use Rattle.std.proofs.Common.{◌≡◌, length, map}
use Rattle.bac_environment.specs.LineWords.{after_words, words_of}
use Rattle.bac_environment.proofs.line_words.words_of.Given as goal

abbrev pub invariant-loop-words : goal.invariant-loop-words
invariant-loop-words l = words_of l.fn.line ≡ after_words (map (λ w. w.now) l.words.items) (words_of l.rest)

abbrev pub decreases-loop-words : goal.decreases-loop-words
decreases-loop-words l = length l.rest
