use Rattle.std.proofs.Common.{◌≤◌, ◌-◌, length}
use Rattle.bac_capture.specs.Runs.{RUN_LIMIT}
use Rattle.bac_capture.proofs.Runs.{AreSoFar}
use Rattle.bac_capture.proofs.run.read_run.Given as goal

abbrev pub invariant-loop : goal.invariant-loop
invariant-loop g l = (length l.kept.items ≤ RUN_LIMIT) × (l.left ≤ l.initial.count)
    × AreSoFar (g.R.Read.remaining l.initial.input) (g.R.Read.remaining l.input) (l.initial.count - l.left) l.kept.items
