use Rattle.std.proofs.Common.{◌≡◌, map, length}
use Rattle.bac_service_text.specs.BadWords.{bad_behind}
use Rattle.bac_service_text.proofs.bad_words.bad_behind.Given as goal

abbrev pub invariant-loop-rest : goal.invariant-loop-rest
invariant-loop-rest l = bad_behind l.fn.first (map (λ w. w.now) l.rest) ≡ bad_behind l.fn.first (map (λ w. w.now) l.fn.words)

abbrev pub decreases-loop-rest : goal.decreases-loop-rest
decreases-loop-rest l = length l.rest
