use Rattle.std.proofs.Common.{◌≡◌}
use Rattle.bac_json_report.specs.Datagrams.{bad_line_form}
use Rattle.bac_json_report.proofs.Printed.{line_of}
use Rattle.bac_json_report.proofs.datagram.show_bad_line.Goals as goal

pub returns : goal.returns
returns g c = line_of _ (λ d. d ≡ bad_line_form c.args.line) _ _ _ c.in_ok-json.ensures c.print_json.ensures
