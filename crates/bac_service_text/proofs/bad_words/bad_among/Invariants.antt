use Rattle.std.proofs.Common.{◌≡◌, map, length}
use Rattle.bac_service_text.specs.BadWords.{bad_among}
use Rattle.bac_service_text.proofs.bad_words.bad_among.Given as goal

abbrev pub invariant-loop-roles : goal.invariant-loop-roles
invariant-loop-roles l =
    bad_among l.fn.are_values l.roles (map (λ w. w.now) l.words) ≡ bad_among l.fn.are_values l.fn.roles (map (λ w. w.now) l.fn.words)

abbrev pub decreases-loop-roles : goal.decreases-loop-roles
decreases-loop-roles l = length l.roles
