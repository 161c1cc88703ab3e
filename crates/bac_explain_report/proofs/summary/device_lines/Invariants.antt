-- The lines so far, and then the others.
use Rattle.std.proofs.Common.{◌≡◌, ◌++◌, drop, map}
use Rattle.bac_explain_report.specs.DeviceViews.{device_view}
use Rattle.bac_explain_report.specs.Summaries.{device_lines}
use Rattle.bac_explain_report.proofs.summary.device_lines.Given as goal

abbrev pub invariant-loop-device : goal.invariant-loop-device
invariant-loop-device l =
    l.text.items ++ device_lines (map device_view (drop l.device-index l.devices)) ≡ device_lines (map device_view l.devices)
