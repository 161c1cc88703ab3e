use Rattle.bac_service_text.proofs.TakenStrings.{all_printed}
use Rattle.bac_service_text.proofs.strings.print_strings.Goals as goal

pub returns : goal.returns
returns g c =
    let string = c.in_ok-string.ensures.is in
    all_printed _ _ _ _ string.0 _ _ _ _ c.in_ok-write.ensures.bytes string.1.0 string.1.1
    (rw (← c.in_ok-text.ensures) c.in_ok-write-2.ensures.bytes) c.print_more_strings.ensures
