use Rattle.std.proofs.Common.{◌≡◌, ◌-◌, ◌≤◌, length, take}
use Rattle.bac_value.specs.Octets.{joined}
use Rattle.bac_segment.proofs.chunks.cut_back.Given as goal

abbrev pub invariant-loop-last : goal.invariant-loop-last
invariant-loop-last l = record {
  within : l.left ≤ length (joined l.chunks.items);
  same : take (length (joined l.chunks.items) - l.left) (joined l.chunks.items)
      ≡ take (length (joined l.fn.chunks.items) - l.count) (joined l.fn.chunks.items);
}

abbrev pub decreases-loop-last : goal.decreases-loop-last
decreases-loop-last l = length l.chunks.items
