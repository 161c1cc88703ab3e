-- The numbers of the frames so far.
use Rattle.std.proofs.Common.{◌≡◌, map, take}
use Rattle.serde_json.specs.View.{view}
use Rattle.bac_explain_json.specs.Lists.{frame_form}
use Rattle.bac_explain_json.proofs.findings.frames_json.Given as goal

abbrev pub invariant-loop-step : goal.invariant-loop-step
invariant-loop-step l = map view l.frames.items ≡ map frame_form (take l.step-index l.steps)
