-- The plain value of a device.
use Rattle.bac_npdu.specs.Views.{peer_view}
use Rattle.bac_explain_report.specs.Devices.{DeviceView}
use Rattle.bac_explain_report.specs.declared.devices.Device.{Device}

abbrev pub device_view : Device → DeviceView
device_view d = record { server = peer_view d.server; totals = d.totals }
