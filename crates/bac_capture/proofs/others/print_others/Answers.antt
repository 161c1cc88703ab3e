use Rattle.bac_capture.proofs.Printing.{more_printed}
use Rattle.bac_capture.proofs.others.print_others.Goals as goal

pub loop-place-preserved : goal.loop-place-preserved
loop-place-preserved g c =
    more_printed _ _ _ c.args.others c.loop-place.place c.from.result c.from.ensures c.loop-place.invariant c.in_ok-print_other.ensures
