use Rattle.bac_service_text.proofs.Appending.{and_then}
use Rattle.bac_text.proofs.decode.print_npdu_layer.Goals as goal

pub returns : goal.returns
returns g c = and_then _ _ _ _ _ _ c.in_ok-print_npdu.ensures c.print_contents.ensures
