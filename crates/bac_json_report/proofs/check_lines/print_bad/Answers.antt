use Rattle.std.proofs.Common.{◌≡◌}
use Rattle.bac_json_report.specs.CheckedLines.{bad_line_form}
use Rattle.bac_json_report.proofs.Printed.{line_of}
use Rattle.bac_json_report.proofs.check_lines.print_bad.Goals as goal
use Rattle.serde_json.specs.View.{view}

pub returns : goal.returns
returns g c = line_of _ (λ d. d ≡ bad_line_form c.args.line (view c.args.fault)) _ _ _ c.in_ok-json.ensures c.print_json.ensures
