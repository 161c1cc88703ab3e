-- By whether the text is a time, and that is within a minute.
use Rattle.std.proofs.Common.{rules}
use Rattle.bac_asking.proofs.Waits.{no_timeout, timeout_refused}
use Rattle.bac_asking.proofs.timeout.read_timeout.Goals as goal

pub returns-in_err-milliseconds : goal.returns-in_err-milliseconds
returns-in_err-milliseconds c =
    rw c.from_residual.ensures
    (no_timeout c.args.text.now c.in_err-milliseconds.ensures)

pub returns-else-is_within : goal.returns-else-is_within
returns-else-is_within c = timeout_refused c.args.text.now c.in_ok-milliseconds.milliseconds c.in_ok-milliseconds.ensures (search rules)
