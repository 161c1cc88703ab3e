use Rattle.std.proofs.Common.{◌≡◌, ◌+◌, ◌≤◌, length, drop}
use Rattle.bac_value.specs.Octets.{IsBytes, joined}
use Rattle.bac_value.proofs.parts.settled.Given as goal

abbrev pub invariant-loop-part : goal.invariant-loop-part
invariant-loop-part l = record {
  less : l.over ≤ l.skip;
  same : drop l.over (joined l.rest) ≡ drop l.skip (joined l.parts);
  counted : l.over + l.len ≤ length (joined l.rest);
  each : IsBytes (joined l.rest);
}

abbrev pub decreases-loop-part : goal.decreases-loop-part
decreases-loop-part l = length l.rest
