-- One more slot passes or fails.
use Rattle.std.proofs.Common.{ap, arith, count_by, false}
use Rattle.std.proofs.lemmas.List.{take_all}
use Rattle.bac_slots.proofs.Swept.{count_more, count_kept}
use Rattle.bac_slots.proofs.sweeping.count_passing.Goals as goal

pub loop-n-preserved-in_default : goal.loop-n-preserved-in_default
loop-n-preserved-in_default g c =
    let more = count_kept _ (λ s. g.P.Test.passes c.args.test.now s.value) c.loop-n.n (g.S.SlotTable.slots c.args.table.now)
    (omega (arith, c.loop-n-test.true, c.len-total.ensures.number)) c.in_default.ensures in
    omega (arith, more, c.loop-n.invariant)

pub loop-n-preserved : goal.loop-n-preserved
loop-n-preserved g c =
    let found = c.in-Some.ensures in
    let more = count_more _ (λ s. g.P.Test.passes c.args.test.now s.value) c.loop-n.n (g.S.SlotTable.slots c.args.table.now) found.0 false found.1 found.3 in
    omega (arith, more, c.loop-n.invariant)

pub returns : goal.returns
returns g c =
    let whole = ap (λ l. count_by (λ s. g.P.Test.passes c.args.test.now s.value) l)
    (take_all c.loop-n.n (g.S.SlotTable.slots c.args.table.now) (omega (arith, c.loop-n-test.false, c.len-total.ensures.number))) in
    omega (arith, whole, c.loop-n.invariant, c.loop-n-test.false, c.loop-n.auto.n-end)
