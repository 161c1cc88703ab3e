-- The rest of the number is counted from this block on.
use Rattle.std.proofs.Common.{◌≡◌, ◌<◌, ◌-◌, length, map}
use Rattle.bac_slots.specs.Indexes.{rank_at}
use Rattle.bac_slots.proofs.blocks.Blocks.spot.Given as goal

abbrev pub invariant-loop-at : goal.invariant-loop-at
invariant-loop-at l =
    record {
      within : l.block < length l.self-inside.blocks.items;
      same : rank_at (map length l.self-inside.blocks.items) l.block l.at ≡ l.n;
    }

abbrev pub decreases-loop-at : goal.decreases-loop-at
decreases-loop-at l = length l.self-inside.blocks.items - l.block
