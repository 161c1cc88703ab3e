-- One slot fails, or all before a young one pass.
use Rattle.std.proofs.Common.{◌<◌, length, arith}
use Rattle.bac_slots.proofs.SlotAges.{pass_one, count_all, count_young, count_failing}
use Rattle.bac_slots.proofs.sweeping.has_failing.Goals as goal

pub loop-n-init : goal.loop-n-init
loop-n-init g c = tt

pub returns-then-is_young : goal.returns-then-is_young
returns-then-is_young g c =
    let inside : c.loop-n.n < length (g.S.SlotTable.slots c.args.table.now) = omega (arith, c.loop-n-test.true, c.len-n-end.ensures.number) in
    count_young (g.P.Test.passes c.args.test.now) c.args.bound _ c.loop-n.n c.is_young.result c.loop-n.invariant c.requires.ascending c.requires.young
    inside c.is_young.ensures c.if-is_young.true

pub loop-n-preserved : goal.loop-n-preserved
loop-n-preserved g c = pass_one (g.P.Test.passes c.args.test.now) _ c.loop-n.n c.loop-n.invariant c.in_default.ensures

pub returns-in-loop-n : goal.returns-in-loop-n
returns-in-loop-n g c =
    let found = c.in-Some.ensures in
    count_failing (g.P.Test.passes c.args.test.now) _ c.loop-n.n found.0 found.1 found.3

pub returns : goal.returns
returns g c = count_all (g.P.Test.passes c.args.test.now) _ c.loop-n.n c.loop-n.invariant (omega (arith, c.loop-n-test.false, c.len-n-end.ensures.number))
