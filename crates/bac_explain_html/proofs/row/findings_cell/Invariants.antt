-- What is wrong with the frames so far, and then with the others.
use Rattle.std.proofs.Common.{◌≡◌, ◌++◌, codes, drop}
use Rattle.bac_explain_html.specs.Rows.{findings_lines}
use Rattle.bac_explain_html.proofs.row.findings_cell.Given as goal

abbrev pub invariant-loop-step : goal.invariant-loop-step
invariant-loop-step l = l.text.items ++ findings_lines (drop l.step-index l.steps) ≡ codes "<td class=\"f\">" ++ findings_lines l.steps
