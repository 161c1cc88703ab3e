use Rattle.std.proofs.Common.{◌+◌, map, ap}
use Rattle.bac_simulate.specs.Views.{line_view}
use Rattle.bac_simulate.proofs.Showing.{run_told}
use Rattle.bac_simulate.proofs.view.run_and_tell.Goals as goal

pub returns : goal.returns
returns g c =
    run_told c.args.style c.print_lines.result (c.args.script.before + 1) _ (map line_view c.args.script.lines.items) c.args.script.world c.print_lines.new.world _ _
    (ap (map line_view) c.deref.ensures.value) c.print_lines.ensures
