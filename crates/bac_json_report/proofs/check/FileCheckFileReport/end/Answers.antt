use Rattle.bac_json_report.specs.CheckedFiles.{count_of}
use Rattle.bac_json_report.proofs.Checked.{file_ended}
use Rattle.bac_json_report.proofs.check.FileCheckFileReport.end.Goals as goal

pub returns-in-Ok : goal.returns-in-Ok
returns-in-Ok g c = file_ended (count_of c.args.self.now) _ _ _ c.in-Ok.ensures c.status.ensures
