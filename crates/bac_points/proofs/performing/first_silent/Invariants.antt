-- The asks that are left decide.
use Rattle.std.proofs.Common.{◌≡◌, length}
use Rattle.bac_points.specs.Lists.{any_silent}
use Rattle.bac_points.proofs.performing.first_silent.Given as goal

abbrev pub invariant-loop-rest : goal.invariant-loop-rest
invariant-loop-rest l = any_silent l.rest ≡ any_silent l.fn.ends

abbrev pub decreases-loop-rest : goal.decreases-loop-rest
decreases-loop-rest l = length l.rest
