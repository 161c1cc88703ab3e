-- The lines that are left decide.
use Rattle.std.proofs.Common.{◌≡◌, length}
use Rattle.bac_points.specs.Reads.{are_valued}
use Rattle.bac_points.proofs.reading.are_valued.Given as goal

abbrev pub invariant-loop-lines : goal.invariant-loop-lines
invariant-loop-lines l = are_valued l.lines l.ends ≡ are_valued l.fn.lines l.fn.ends

abbrev pub decreases-loop-lines : goal.decreases-loop-lines
decreases-loop-lines l = length l.lines
