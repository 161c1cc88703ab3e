use Rattle.std.proofs.Common.{arith, sym}
use Rattle.bac_ask_report.proofs.Sole.{not_one}
use Rattle.bac_ask_report.proofs.csv_row.sole_value.Goals as goal

pub returns-in-len2-up : goal.returns-in-len2-up
returns-in-len2-up c = sym (not_one c.args.elements.now (omega (arith, c.in-len2-up.len_at_least)))
