use Rattle.std.proofs.Common.{rules}
use Rattle.bac_json_report.proofs.Printed.{line_visited}
use Rattle.bac_json_report.proofs.decode.DecodingLineReport.visit_line.Goals as goal

pub returns-after-self : goal.returns-after-self
returns-after-self g c = line_visited c.args.line.now c.in-Some.number c.in-Ok.fine _ _ _ _ (search rules) c.in-Ok.ensures (search rules) (search rules)
