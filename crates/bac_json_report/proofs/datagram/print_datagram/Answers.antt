use Rattle.bac_json_report.specs.Datagrams.{IsDatagramForm}
use Rattle.bac_json_report.proofs.Printed.{line_of}
use Rattle.bac_json_report.proofs.datagram.print_datagram.Goals as goal

pub returns : goal.returns
returns g c = line_of _ (IsDatagramForm c.args.line c.args.datagram.now c.args.fault) _ _ _ c.in-Ok.ensures c.print_json.ensures
