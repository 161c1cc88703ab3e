use Rattle.bac_json_report.proofs.Checked.{file_broken}
use Rattle.bac_json_report.proofs.check.FileCheckFileReport.break_off.Goals as goal

pub returns : goal.returns
returns g c = file_broken _ c.args.fault _ _ _ _ c.see.ensures
