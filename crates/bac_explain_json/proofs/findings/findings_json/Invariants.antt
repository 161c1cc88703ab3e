-- What is wrong with the frames so far, and then with the others.
use Rattle.std.proofs.Common.{◌≡◌, ◌++◌, map, drop}
use Rattle.serde_json.specs.View.{view}
use Rattle.bac_explain_json.specs.Lists.{findings_in}
use Rattle.bac_explain_json.proofs.findings.findings_json.Given as goal

abbrev pub invariant-loop-step : goal.invariant-loop-step
invariant-loop-step l = map view l.findings.items ++ findings_in (drop l.step-index l.steps) ≡ findings_in l.steps
