-- The arrows of the frames so far, and then of the others.
use Rattle.std.proofs.Common.{◌≡◌, ◌++◌, drop}
use Rattle.bac_explain_html.specs.Pictures.{arrows}
use Rattle.bac_explain_html.proofs.picture.arrows.Given as goal

abbrev pub invariant-loop-step : goal.invariant-loop-step
invariant-loop-step l = l.text.items ++ arrows l.asked (drop l.step-index l.steps) ≡ arrows l.asked l.steps
