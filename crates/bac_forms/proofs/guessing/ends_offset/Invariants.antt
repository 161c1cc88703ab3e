use Rattle.std.proofs.Common.{◌≡◌, length}
use Rattle.bac_forms.specs.Guess.{ends_offset}
use Rattle.bac_forms.proofs.guessing.ends_offset.Given as goal

abbrev pub invariant-loop-octet : goal.invariant-loop-octet
invariant-loop-octet l = ends_offset l.rest ≡ ends_offset l.fn.text

abbrev pub decreases-loop-octet : goal.decreases-loop-octet
decreases-loop-octet l = length l.rest
