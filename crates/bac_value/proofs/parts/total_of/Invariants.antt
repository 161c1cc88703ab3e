use Rattle.std.proofs.Common.{◌≡◌, ◌+◌, ◌<◌, ◌^◌, length, drop, take}
use Rattle.bac_value.specs.Octets.{IsBytes, joined}
use Rattle.bac_value.proofs.parts.total_of.Given as goal

abbrev pub invariant-loop-part : goal.invariant-loop-part
invariant-loop-part l = record {
  fits : l.len < 2 ^ 64;
  counted : l.len + length (joined (drop l.part-index l.parts)) ≡ length (joined l.parts);
  each : IsBytes (joined (take l.part-index l.parts));
}
