-- Of the first n, those that fail and those that pass.
use Rattle.std.proofs.Common.{◌≡◌, ◌+◌, take, count_by}
use Rattle.bac_slots.proofs.sweeping.count_passing.Given as goal

abbrev pub invariant-loop-n : goal.invariant-loop-n
invariant-loop-n g l = l.failing + count_by (λ s. g.P.Test.passes l.test s.value) (take l.n (g.S.SlotTable.slots l.table)) ≡ l.n
