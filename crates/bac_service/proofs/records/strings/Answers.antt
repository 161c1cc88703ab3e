use Rattle.std.proofs.Common.{arith}
use Rattle.std.proofs.lemmas.Result.{err_from_is_err_and}
use Rattle.bac_service.proofs.Runs.{goes_on, stops, fails, none_of}
use Rattle.bac_service.proofs.records.strings.Goals as goal

pub loop-next-preserved : goal.loop-next-preserved
loop-next-preserved g c = goes_on _ _ _ _ c.loop-next.invariant (rw c.in-Some.is at c.in_ok-next.ensures.step) (rw c.in-Some.is at c.in_ok-next.ensures.onward)

pub returns : goal.returns
returns g c = (omega (arith, c.loop-next.invariant.few), stops _ _ _ c.loop-next.invariant (rw (none_of _ c.in_default.not-Some) at c.in_ok-next.ensures.step))

pub returns-in_err-next : goal.returns-in_err-next
returns-in_err-next g c =
    let failed = fails _ _ _ _ c.loop-next.invariant c.in_err-next.ensures.step in
    let p = err_from_is_err_and c.from_residual.result c.from_residual.ensures.1 in rw (p.1, p.2) failed
