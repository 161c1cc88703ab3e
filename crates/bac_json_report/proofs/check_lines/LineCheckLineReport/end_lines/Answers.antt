use Rattle.bac_json_report.specs.CheckedLines.{count_of}
use Rattle.bac_json_report.proofs.Checked.{lines_ended}
use Rattle.bac_json_report.proofs.check_lines.LineCheckLineReport.end_lines.Goals as goal

pub returns-in-Ok : goal.returns-in-Ok
returns-in-Ok g c = lines_ended (count_of c.args.self.now) _ _ _ c.in-Ok.ensures c.status.ensures
