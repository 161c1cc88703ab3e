-- The first n slots pass.
use Rattle.bac_slots.proofs.SlotAges.{PassBefore}
use Rattle.bac_slots.proofs.sweeping.has_failing.Given as goal

abbrev pub invariant-loop-n : goal.invariant-loop-n
invariant-loop-n g l = PassBefore (g.P.Test.passes l.test) l.n (g.S.SlotTable.slots l.table)
