-- One of the two parts is none.
use Rattle.bac_environment.proofs.Addresses.{no_parts_no_end}
use Rattle.bac_environment.proofs.address.read_end.Goals as goal

pub returns-in_err-host-in-Some : goal.returns-in_err-host-in-Some
returns-in_err-host-in-Some c =
    rw c.from_residual.ensures
    (no_parts_no_end c.args.text.now c.in-Some.host.now c.in-Some.port.now c.in-Some.ensures c.in_err-host-in-Some.ensures)
