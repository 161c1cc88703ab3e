use Rattle.std.proofs.Common.{◌≡◌, length}
use Rattle.bac_forms.specs.Guess.{begins_quoted}
use Rattle.bac_forms.proofs.guessing.begins_quoted.Given as goal

abbrev pub invariant-loop-octet : goal.invariant-loop-octet
invariant-loop-octet l = begins_quoted l.rest ≡ begins_quoted l.fn.text

abbrev pub decreases-loop-octet : goal.decreases-loop-octet
decreases-loop-octet l = length l.rest
