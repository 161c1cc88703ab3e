use Rattle.std.proofs.Common.{map, ap, refl}
use Rattle.bac_simulate.specs.Views.{line_view}
use Rattle.bac_simulate.proofs.Showing.{rest_not_read, rest_read}
use Rattle.bac_simulate.proofs.script_reading.read_rest.Goals as goal

pub returns-in_ok-world-in-Ok : goal.returns-in_ok-world-in-Ok
returns-in_ok-world-in-Ok c =
    rest_read c.args.notes c.args.first c.in_ok-plain.plain _ (map line_view c.deref.result.now) c.in_ok-plain.ensures c.in-Ok.ensures.read refl
    (ap (map line_view) c.deref.ensures.value) c.in_ok-world-in-Ok.ensures refl

pub returns-in-Err : goal.returns-in-Err
returns-in-Err c = rest_not_read c.args.notes c.args.first c.in_ok-plain.plain c.in-Err.fault c.in_ok-plain.ensures c.in-Err.ensures.read
