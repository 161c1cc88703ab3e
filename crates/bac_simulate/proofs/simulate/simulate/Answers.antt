use Rattle.bac_text.specs.Lines.{lines_of}
use Rattle.bac_simulate.specs.Scripts.{script_of}
use Rattle.bac_simulate.proofs.Reported.{no_script, reported}
use Rattle.bac_simulate.proofs.simulate.simulate.Goals as goal

pub returns-in-Ok : goal.returns-in-Ok
returns-in-Ok g c = reported (script_of c.args.notes (lines_of c.args.text.now)) c.in-Ok.script _ _ _ c.in-Ok.ensures c.run_script.ensures

pub returns-in-Err : goal.returns-in-Err
returns-in-Err g c = no_script c.in-Err.fault (script_of c.args.notes (lines_of c.args.text.now)) _ _ c.in-Err.ensures c.refuse.ensures
