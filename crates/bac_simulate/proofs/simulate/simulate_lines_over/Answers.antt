use Rattle.bac_simulate.proofs.Reported.{not_taken, taken}
use Rattle.bac_simulate.proofs.simulate.simulate_lines_over.Goals as goal

pub returns-in-Ok : goal.returns-in-Ok
returns-in-Ok g c = taken _ _ c.in-Ok.text.items c.deref.result.now _ _ _ c.deref.ensures.value c.in-Ok.ensures c.simulate.ensures

pub returns-in-Err : goal.returns-in-Err
returns-in-Err g c = not_taken _ _ _ _ c.unread.ensures
