-- One more form behind those of the devices before it.
use Rattle.std.proofs.Common.{◌≡◌, ◌∙◌, ◌+◌, ◌<◌, ℕ, suc, List, [], ◌∷◌, ◌++◌, length, take, map, get_or, sym, ap, arith}
use Rattle.std.proofs.lemmas.List.{map-append}
use Rattle.std.proofs.Math.Seq.{take-suc}
use Rattle.serde_json.specs.Data.{Data}
use Rattle.serde_json.specs.View.{view}
use Rattle.serde_json.specs.declared.value.Value.{Value}
use Rattle.bac_explain_report.specs.DeviceViews.{device_view}
use Rattle.bac_explain_report.specs.Devices.{DeviceView}
use Rattle.bac_explain_report.specs.declared.devices.Device.{Device}
use Rattle.bac_explain_json.specs.Summaries.{device_form}

abbrev forms_of : List Device → List Data
forms_of devices = map device_form (map device_view devices)

-- the devices before an index, and the one there
upto : (devices : List Device) (i : ℕ) (d : Device) → i < length devices → d ≡ get_or devices i d → take (i + 1) devices ≡ take i devices ++ d ∷ []
upto devices i d there at =
    let next : i + 1 ≡ suc i = omega arith in
    ap (λ (n : ℕ). take n devices) next ∙ take-suc devices i d there ∙ (λ j. take i devices ++ sym at j ∷ [])

pub one_form_more : (devices : List Device) (i : ℕ) (d : Device) (forms : List Value) (v : Value) → i < length devices → d ≡ get_or devices i d
    → view v ≡ device_form (device_view d) → map view forms ≡ forms_of (take i devices) → map view (forms ++ v ∷ []) ≡ forms_of (take (i + 1) devices)
one_form_more devices i d forms v there at is sofar =
    map-append view forms (v ∷ []) ∙ (λ j. sofar j ++ is j ∷ [])
    ∙ sym (map-append device_form (map device_view (take i devices)) (device_view d ∷ []))
    ∙ ap (map device_form) (sym (map-append device_view (take i devices) (d ∷ []))) ∙ ap forms_of (sym (upto devices i d there at))
