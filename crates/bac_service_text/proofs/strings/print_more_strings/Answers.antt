use Rattle.std.proofs.Common.{rules}
use Rattle.bac_service_text.proofs.TakenStrings.{one_taken, all_taken}
use Rattle.bac_service_text.proofs.strings.print_more_strings.Goals as goal

pub loop-rest-preserved : goal.loop-rest-preserved
loop-rest-preserved g c =
    let string = c.in_ok-string.ensures.is in
    one_taken _ _ _ _ string.0 _ _ _ c.loop-rest.invariant string.1.0 string.1.1 (rw (← c.in_ok-text.ensures) c.in_ok-write.ensures.bytes)

pub returns : goal.returns
returns g c = all_taken _ _ _ _ c.loop-rest.invariant (search rules)
