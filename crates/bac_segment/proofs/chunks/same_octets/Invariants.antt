use Rattle.std.proofs.Common.{◌≡◌, ◌↔◌, length}
use Rattle.bac_segment.proofs.chunks.same_octets.Given as goal

abbrev pub invariant-loop-octet : goal.invariant-loop-octet
invariant-loop-octet g l = (g.O.Octets.octets l.fn.ours ≡ g.O.Octets.octets l.fn.theirs) ↔ (g.O.Octets.octets l.left ≡ g.O.Octets.octets l.right)

abbrev pub decreases-loop-octet : goal.decreases-loop-octet
decreases-loop-octet g l = length (g.O.Octets.octets l.left)
