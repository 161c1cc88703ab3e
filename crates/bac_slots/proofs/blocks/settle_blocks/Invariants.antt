-- The blocks so far are settled.
use Rattle.std.proofs.Common.{◌≡◌, ◌-◌, ◌++◌, map, take, drop}
use Rattle.bac_slots.specs.Indexes.{lowered}
use Rattle.bac_slots.proofs.blocks.settle_blocks.Given as goal

abbrev pub invariant-loop-block : goal.invariant-loop-block
invariant-loop-block l =
    l.block-items ≡ map (λ r. map (λ n. lowered l.gone (n - l.first)) r) (take l.block-index l.fn.blocks.items) ++ drop l.block-index l.fn.blocks.items
