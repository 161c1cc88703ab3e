use Rattle.std.proofs.Common.{arith}
use Rattle.bac_service.proofs.Runs.{run_is}
use Rattle.bac_service.proofs.records.take_run.Goals as goal

pub returns : goal.returns
returns g c =
    let octets = g.O.Octets.octets in (
      c.in_ok-count.ensures.0,
      run_is (octets c.args.octets) (octets c.front-run.result) (octets c.in_ok-count.rest) c.in_ok-count.count _ c.in_ok-count.ensures.1
          (omega (arith, c.len-all.ensures.count, c.len.ensures.count)) c.front-run.ensures,
    )
