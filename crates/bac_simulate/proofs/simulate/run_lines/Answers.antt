use Rattle.std.proofs.Common.{◌+◌, false, ap, map}
use Rattle.bac_text.specs.Lines.{lines_of}
use Rattle.bac_simulate.specs.Scripts.{limits_in, said_from}
use Rattle.bac_simulate.specs.Views.{line_view}
use Rattle.bac_simulate.proofs.Reported.{as_read, not_read}
use Rattle.bac_simulate.proofs.simulate.run_lines.Goals as goal

pub returns-in-Ok : goal.returns-in-Ok
returns-in-Ok g c =
    as_read
    (said_from c.args.script.now.notes false (limits_in c.args.world.now.nodes) (c.args.script.now.before + 1) (lines_of c.args.script.now.text.now))
    (c.args.script.now.before + 1)
    (map line_view c.in-Ok.lines.items) (map line_view c.deref.result.now) _ _ _ _ _ (ap (map line_view) c.deref.ensures.value) c.in-Ok.ensures.read
    c.run_said.ensures

pub returns-in-Err : goal.returns-in-Err
returns-in-Err g c =
    not_read c.in-Err.fault
    (said_from c.args.script.now.notes false (limits_in c.args.world.now.nodes) (c.args.script.now.before + 1) (lines_of c.args.script.now.text.now))
    (c.args.script.now.before + 1) _ _ _
    c.in-Err.ensures.read c.no_script.ensures
