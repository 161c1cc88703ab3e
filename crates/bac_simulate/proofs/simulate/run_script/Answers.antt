use Rattle.std.proofs.Common.{◌+◌, map, ap}
use Rattle.bac_simulate.specs.Views.{line_view}
use Rattle.bac_simulate.proofs.Reported.{with_lines}
use Rattle.bac_simulate.proofs.simulate.run_script.Goals as goal

pub returns : goal.returns
returns g c =
    with_lines (c.args.script.before + 1) (map line_view c.args.script.lines.items) _ c.args.script.world c.run_said.new.world _ _ _
    (ap (map line_view) c.deref.ensures.value) c.run_said.ensures
