-- None of the devices before this one is the server's.
use Rattle.std.proofs.Common.{◌≡◌, ◌+◌, drop, map}
use Rattle.bac_npdu.specs.Views.{peer_view}
use Rattle.bac_explain_report.specs.DeviceViews.{device_view}
use Rattle.bac_explain_report.specs.Devices.{place_of}
use Rattle.bac_explain_report.proofs.devices.place_of.Given as goal

abbrev pub invariant-loop-place : goal.invariant-loop-place
invariant-loop-place l =
    place_of (peer_view l.server) (map device_view l.devices) ≡ l.place + place_of (peer_view l.server) (map device_view (drop l.place l.devices))
