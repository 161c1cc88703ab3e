-- The node refused the ask.
use Rattle.std.proofs.Common.{rules}
use Rattle.bac_asking.proofs.window.begin_at.Goals as goal

pub returns-in-Err : goal.returns-in-Err
returns-in-Err g c = record { begun = c.in-Err.ensures.refused (search rules); failed = tt }
