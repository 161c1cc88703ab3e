use Rattle.bac_ask_report.specs.Objects.{IsObject}
use Rattle.bac_ask_report.specs.Records.{record_view}
use Rattle.bac_json_report.proofs.Printed.{line_of}
use Rattle.bac_ask_report.proofs.object.print_ask_object.Goals as goal

pub returns : goal.returns
returns g c = line_of _ (IsObject (record_view c.args.ask.now)) _ _ _ c.in-Ok.ensures c.print_json.ensures
