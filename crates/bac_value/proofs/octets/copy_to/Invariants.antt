use Rattle.std.proofs.Common.{◌≡◌, ◌+◌, ◌++◌, length, take}
use Rattle.bac_value.proofs.octets.copy_to.Given as goal

abbrev pub invariant-loop-read : goal.invariant-loop-read
invariant-loop-read g l =
    let rest = g.O.Octets.octets l.rest in
    record {
      sized : length l.out ≡ length l.fn.out;
      count : l.at + length rest ≡ length l.out;
      same : take l.at l.out ++ rest ≡ g.O.Octets.octets l.fn.octets;
    }

abbrev pub decreases-loop-read : goal.decreases-loop-read
decreases-loop-read g l = length (g.O.Octets.octets l.rest)
