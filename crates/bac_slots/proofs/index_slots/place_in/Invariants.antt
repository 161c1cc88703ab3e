-- Each step halves the part, which is one of the numbers.
use Rattle.std.proofs.Common.{◌+◌, ◌≤◌, length}
use Rattle.bac_slots.specs.Slots.{digits}
use Rattle.bac_slots.proofs.index_slots.place_in.Given as goal

abbrev pub invariant-loop-count : goal.invariant-loop-count
invariant-loop-count g l =
    record {
      part : l.first + l.count ≤ length l.numbers;
      few : l.compared.comparisons + digits l.count ≤ l.initial.compared.comparisons + 8;
    }

abbrev pub decreases-loop-count : goal.decreases-loop-count
decreases-loop-count g l = l.count
