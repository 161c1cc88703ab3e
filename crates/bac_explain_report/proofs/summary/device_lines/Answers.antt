-- One more line below those before it.
use Rattle.std.proofs.Common.{◌∙◌}
use Rattle.bac_explain_report.proofs.DeviceLines.{one_line_more}
use Rattle.bac_explain_report.proofs.summary.device_lines.Goals as goal

pub loop-device-preserved : goal.loop-device-preserved
loop-device-preserved c =
    one_line_more c.args.devices.now c.loop-device.device-index c.device-item.result c.loop-device.text.items c.as_bytes.result.now
    c.extend_from_slice.new.self.items c.loop-device-test.true c.device-item.is (c.as_bytes.ensures.value ∙ c.in_ok-line.ensures)
    c.in_ok-extend_from_slice.ensures.items c.loop-device.invariant
