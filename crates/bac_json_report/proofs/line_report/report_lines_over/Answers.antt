use Rattle.bac_json_report.proofs.LinesSeen.{if_ended}
use Rattle.bac_json_report.proofs.line_report.report_lines_over.Goals as goal

pub returns-in-Ok : goal.returns-in-Ok
returns-in-Ok g c = if_ended c.in-Ok.status _ c.in-Ok.ensures
