-- One more form behind those before it.
use Rattle.std.proofs.Common.{◌∙◌, ap, map}
use Rattle.serde_json.specs.View.{view}
use Rattle.bac_explain_json.proofs.DeviceForms.{one_form_more}
use Rattle.bac_explain_json.proofs.summary.devices_json.Goals as goal

pub loop-device-preserved : goal.loop-device-preserved
loop-device-preserved c =
    ap (map view) c.in_ok-push.ensures.items
    ∙ one_form_more c.args.devices.now c.loop-device.device-index c.device-item.result c.loop-device.forms.items c.in_ok-form.form c.loop-device-test.true
    c.device-item.is c.in_ok-form.ensures c.loop-device.invariant
