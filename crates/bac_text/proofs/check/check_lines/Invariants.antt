use Rattle.std.proofs.Common.{◌+◌, ◌-◌, ◌^◌, ◌≤◌}
use Rattle.bac_text.specs.Checking.{AreSoFar}
use Rattle.bac_text.proofs.check.check_lines.Given as goal

abbrev pub invariant-loop-datagram : goal.invariant-loop-datagram
invariant-loop-datagram g l = (l.tally.1.0 + l.tally.1.1.0 ≤ l.tally.0)
    × AreSoFar l.fn.style.in_words l.fn.style.notes (g.R.Read.remaining l.initial.input) (g.R.Read.remaining l.input) (g.W.Write.contents l.initial.out) (g.W.Write.contents l.out)
    (record { lines = l.tally.0; good = l.tally.1.0; bad = l.tally.1.1.0; latest = l.tally.1.1.1.0 })

abbrev pub decreases-loop-datagram : goal.decreases-loop-datagram
decreases-loop-datagram g l = 2 ^ 64 - l.tally.0
