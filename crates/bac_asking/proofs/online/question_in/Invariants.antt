-- The octets of the words so far.
use Rattle.std.proofs.Common.{◌≡◌, map, take}
use Rattle.bac_asking.proofs.online.question_in.Given as goal

abbrev pub invariant-loop-word : goal.invariant-loop-word
invariant-loop-word l = map (λ w. w.now) l.octets.items ≡ map (λ w. w.now) (take l.word-index l.words)
