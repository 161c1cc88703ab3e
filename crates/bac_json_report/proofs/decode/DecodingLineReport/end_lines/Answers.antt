use Rattle.bac_json_report.proofs.Printed.{lines_ended}
use Rattle.bac_json_report.proofs.decode.DecodingLineReport.end_lines.Goals as goal

pub returns-in-Ok : goal.returns-in-Ok
returns-in-Ok g c = lines_ended _ _ _ _ c.shown_status.ensures c.flush.ensures.bytes
