use Rattle.std.proofs.Common.{length}
use Rattle.bac_service.proofs.Runs.{IsUnderway}
use Rattle.bac_service.proofs.records.strings.Given as goal

abbrev pub invariant-loop-next : goal.invariant-loop-next
invariant-loop-next g l = IsUnderway (g.O.Octets.octets l.fn.octets) l.count (g.O.Octets.octets l.rest)

abbrev pub decreases-loop-next : goal.decreases-loop-next
decreases-loop-next g l = length (g.O.Octets.octets l.rest)
