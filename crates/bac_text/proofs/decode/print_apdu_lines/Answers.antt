use Rattle.bac_service_text.proofs.Appending.{and_then, last_line, then_both}
use Rattle.bac_text.proofs.decode.print_apdu_lines.Goals as goal

pub returns : goal.returns
returns g c =
    and_then _ _ _ _ _ _ c.in_ok-print_apdu.ensures (then_both _ _ _ _ _ _ c.in_ok-print_request_in.ensures
    (then_both _ _ _ _ _ _ c.in_ok-print_complex_in.ensures (last_line _ _ _ _ c.print_service.ensures)))
