use Rattle.std.proofs.Common.{◌+◌, map}
use Rattle.bac_simulate.specs.Views.{line_view}
use Rattle.bac_simulate.proofs.Reported.{gone}
use Rattle.bac_simulate.proofs.simulate.run_said.Goals as goal

pub returns : goal.returns
returns g c =
    gone c.run_and_print-ran.result c.flush-flushed.result (c.args.before + 1) (map line_view c.args.lines.now) _ c.run_and_print-ran.new.world _ _ _ _
    c.ended.ensures c.run_and_print-ran.ensures c.flush-flushed.ensures.bytes
