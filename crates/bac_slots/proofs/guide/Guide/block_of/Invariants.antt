-- The part is one of the blocks; each step halves it.
use Rattle.std.proofs.Common.{◌+◌, ◌-◌, ◌≤◌, length}
use Rattle.bac_slots.specs.Slots.{digits}
use Rattle.bac_slots.proofs.guide.Guide.block_of.Given as goal

abbrev pub invariant-loop-count : goal.invariant-loop-count
invariant-loop-count g l =
    record {
      part : l.block + l.count ≤ length l.self.firsts.items;
      few : l.compared.comparisons + digits (l.count - 1) ≤ l.initial.compared.comparisons + digits (length l.self.firsts.items);
    }

abbrev pub decreases-loop-count : goal.decreases-loop-count
decreases-loop-count g l = l.count
