-- The cells so far have places below.
use Rattle.bac_c.specs.Kept.{AreBelow}
use Rattle.bac_c.proofs.kept.count_below.Given as goal

abbrev pub invariant-loop-at : goal.invariant-loop-at
invariant-loop-at l = AreBelow l.place l.at l.cells
