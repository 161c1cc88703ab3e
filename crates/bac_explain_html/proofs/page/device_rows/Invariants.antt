-- The rows so far, and then the others.
use Rattle.std.proofs.Common.{◌≡◌, ◌++◌, drop, map}
use Rattle.bac_explain_html.specs.Pages.{device_rows}
use Rattle.bac_explain_report.specs.DeviceViews.{device_view}
use Rattle.bac_explain_html.proofs.page.device_rows.Given as goal

abbrev pub invariant-loop-device : goal.invariant-loop-device
invariant-loop-device l =
    l.text.items ++ device_rows (map device_view (drop l.device-index l.devices)) ≡ device_rows (map device_view l.devices)
