-- The numbers of the blocks so far are counted.
use Rattle.std.proofs.Common.{◌≡◌, length, map}
use Rattle.bac_slots.specs.Indexes.{rank_at}
use Rattle.bac_slots.proofs.blocks.Blocks.rank.Given as goal

abbrev pub invariant-loop-n : goal.invariant-loop-n
invariant-loop-n l = l.rank ≡ rank_at (map length l.self-inside.blocks.items) l.n l.fn.spot.at
