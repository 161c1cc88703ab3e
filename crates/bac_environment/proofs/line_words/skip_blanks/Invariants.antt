use Rattle.std.proofs.Common.{◌≡◌, ◌≤◌, length}
use Rattle.bac_environment.specs.LineWords.{words_of}
use Rattle.bac_environment.proofs.line_words.skip_blanks.Given as goal

abbrev pub invariant-loop-octet : goal.invariant-loop-octet
invariant-loop-octet l = (words_of l.rest ≡ words_of l.fn.line) × (length l.rest ≤ length l.fn.line)

abbrev pub decreases-loop-octet : goal.decreases-loop-octet
decreases-loop-octet l = length l.rest
