-- The numbers so far, and then the others.
use Rattle.std.proofs.Common.{◌≡◌, ◌++◌, drop}
use Rattle.bac_explain_report.specs.FramesLines.{more_numbers}
use Rattle.bac_explain_report.proofs.frames_line.more_numbers.Given as goal

abbrev pub invariant-loop-step : goal.invariant-loop-step
invariant-loop-step l = l.text.items ++ more_numbers (drop l.step-index l.steps) ≡ more_numbers l.steps
