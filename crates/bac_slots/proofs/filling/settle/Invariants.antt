-- The numbers so far are settled.
use Rattle.std.proofs.Common.{◌≡◌, ◌-◌, ◌++◌, map, take, drop}
use Rattle.bac_slots.specs.Indexes.{lowered}
use Rattle.bac_slots.proofs.filling.settle.Given as goal

abbrev pub invariant-loop-number : goal.invariant-loop-number
invariant-loop-number l =
    l.numbers ≡ map (λ n. lowered l.gone (n - l.first)) (take l.number-index l.fn.numbers) ++ drop l.number-index l.fn.numbers
