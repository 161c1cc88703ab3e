use Rattle.bac_json_report.specs.CheckedFiles.{IsBadFrame}
use Rattle.bac_json_report.proofs.Printed.{line_of}
use Rattle.bac_json_report.proofs.check.print_bad.Goals as goal
use Rattle.serde_json.specs.View.{view}

pub returns : goal.returns
returns g c = line_of _ (IsBadFrame c.args.frame c.args.moment (view c.args.fault)) _ _ _ c.in_ok-json.ensures c.print_json.ensures
