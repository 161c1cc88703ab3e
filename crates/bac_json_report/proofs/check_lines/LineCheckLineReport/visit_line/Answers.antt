use Rattle.std.proofs.Common.{refl}
use Rattle.bac_json_report.proofs.Checked.{line_checked}
use Rattle.bac_json_report.proofs.check_lines.LineCheckLineReport.visit_line.Goals as goal

pub returns-in-Ok-print_verdict : goal.returns-in-Ok-print_verdict
returns-in-Ok-print_verdict g c =
    line_checked c.args.line.now c.in-Ok.verdict c.in-Ok.latest _ _ _ _ _ c.in-Ok.ensures c.in_ok-count.ensures refl c.in-Ok-print_verdict.ensures
