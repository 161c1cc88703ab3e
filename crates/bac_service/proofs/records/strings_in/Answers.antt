use Rattle.std.proofs.Common.{◌≡◌, ◌<◌, length, rules}
use Rattle.bac_service.proofs.Counting.{passes, ends, fails}
use Rattle.bac_service.proofs.records.strings_in.Goals as goal

pub returns-in-Err : goal.returns-in-Err
returns-in-Err c =
    let some : 0 < length c.loop-rest.rest.now = search rules in
    fails _ _ _ _ c.loop-rest.invariant some c.in-Err.ensures.reads

pub loop-rest-preserved : goal.loop-rest-preserved
loop-rest-preserved c = passes _ _ c.in-Ok.field-0-0.now _ _ c.loop-rest.invariant c.in-Ok.ensures.reads.1 c.in-Ok.ensures.onward

pub returns : goal.returns
returns c =
    let none : length c.loop-rest.rest.now ≡ 0 = search rules in
    ends _ _ _ c.loop-rest.invariant none
