-- The counts of the servers so far.
use Rattle.std.proofs.Common.{◌≡◌, map, take}
use Rattle.serde_json.specs.View.{view}
use Rattle.bac_explain_json.specs.Summaries.{device_form}
use Rattle.bac_explain_report.specs.DeviceViews.{device_view}
use Rattle.bac_explain_json.proofs.summary.devices_json.Given as goal

abbrev pub invariant-loop-device : goal.invariant-loop-device
invariant-loop-device l = map view l.forms.items ≡ map device_form (map device_view (take l.device-index l.devices))
