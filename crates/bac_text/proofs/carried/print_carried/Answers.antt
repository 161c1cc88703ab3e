use Rattle.bac_service_text.proofs.Appending.{and_then}
use Rattle.bac_text.proofs.carried.print_carried.Goals as goal

pub returns : goal.returns
returns g c = and_then _ _ _ _ _ _ c.in_ok-print_function.ensures c.print_npdu_lines.ensures
