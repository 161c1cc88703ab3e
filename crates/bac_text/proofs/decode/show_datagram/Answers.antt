use Rattle.bac_text.proofs.Printed.{printed_faulty}
use Rattle.bac_text.proofs.decode.show_datagram.Goals as goal

pub returns-in_ok-print_other-in-Err : goal.returns-in_ok-print_other-in-Err
returns-in_ok-print_other-in-Err g c =
    printed_faulty _ _ c.in-Err.fault _ _ _ _ c.in_ok-print_layers.ensures c.in-Err.ensures c.in_ok-print_fault-in-Err.ensures
    c.in_ok-print_other-in-Err.ensures
