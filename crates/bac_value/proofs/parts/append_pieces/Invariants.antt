use Rattle.std.proofs.Common.{◌≡◌, ◌+◌, ◌++◌, ◌≤◌, length, take, drop, vec_len, vec_capacity}
use Rattle.bac_value.specs.Octets.{joined}
use Rattle.bac_value.proofs.parts.append_pieces.Given as goal

abbrev pub invariant-loop-part : goal.invariant-loop-part
invariant-loop-part l = record {
  room : l.skip + l.left ≤ length (joined (drop l.part-index l.parts));
  same : l.out.items ++ take l.left (drop l.skip (joined (drop l.part-index l.parts))) ≡ l.fn.out.items ++ take l.len (drop l.at (joined l.parts));
  ample : vec_len l.out + l.left ≤ vec_capacity l.out;
}
