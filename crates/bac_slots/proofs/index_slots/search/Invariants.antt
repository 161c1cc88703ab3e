-- The key is not among those before the part or after it; each step halves the part.
use Rattle.std.proofs.Common.{◌-◌, ◌+◌, ◌≤◌, length}
use Rattle.bac_slots.specs.Slots.{in_order, digits}
use Rattle.bac_slots.specs.Indexes.{keyed, AllBelow, AllAbove}
use Rattle.bac_slots.proofs.index_slots.search.Given as goal

abbrev pub invariant-loop-first : goal.invariant-loop-first
invariant-loop-first g l =
    record {
      ordered : l.first ≤ l.end;
      within : l.end ≤ length l.places.0;
      below : AllBelow g.K.Ord.cmp l.key l.first (in_order g.K.Ord.cmp (keyed l.keys.items));
      above : AllAbove g.K.Ord.cmp l.key l.end (in_order g.K.Ord.cmp (keyed l.keys.items));
      counted : l.initial.count.comparisons ≤ l.count.comparisons;
      few : l.count.comparisons + digits (l.end - l.first) ≤ l.initial.count.comparisons + digits (length l.places.0);
    }

abbrev pub decreases-loop-first : goal.decreases-loop-first
decreases-loop-first g l = l.end - l.first
