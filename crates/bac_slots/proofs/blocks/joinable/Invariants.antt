-- No two neighbours so far fit in one block.
use Rattle.bac_slots.proofs.InBlocks.{Crowded}
use Rattle.bac_slots.proofs.blocks.joinable.Given as goal

abbrev pub invariant-loop-n : goal.invariant-loop-n
invariant-loop-n l = Crowded l.n l.fn.blocks.items
