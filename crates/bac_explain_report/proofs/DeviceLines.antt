-- One more line below the lines of the devices before it.
use Rattle.std.proofs.Common.{◌≡◌, ◌∙◌, ◌+◌, ◌<◌, ℕ, suc, List, ◌∷◌, ◌++◌, length, drop, map, get_or, sym, ap, append_assoc, arith}
use Rattle.std.proofs.Math.Seq.{drop-cons}
use Rattle.bac_explain_report.specs.DeviceViews.{device_view}
use Rattle.bac_explain_report.specs.Summaries.{device_line, device_lines}
use Rattle.bac_explain_report.specs.declared.devices.Device.{Device}

-- the device at an index, and the others behind it
from : (devices : List Device) (i : ℕ) (d : Device) → i < length devices → d ≡ get_or devices i d → drop i devices ≡ d ∷ drop (i + 1) devices
from devices i d there at =
    let next : suc i ≡ i + 1 = omega arith in
    drop-cons devices i d there ∙ (λ j. sym at j ∷ drop (next j) devices)

pub one_line_more : (devices : List Device) (i : ℕ) (d : Device) (text line longer : List ℕ) → i < length devices → d ≡ get_or devices i d
    → line ≡ device_line (device_view d) → longer ≡ text ++ line
    → text ++ device_lines (map device_view (drop i devices)) ≡ device_lines (map device_view devices)
    → longer ++ device_lines (map device_view (drop (i + 1) devices)) ≡ device_lines (map device_view devices)
one_line_more devices i d text line longer there at is added sofar =
    let others : List ℕ = device_lines (map device_view (drop (i + 1) devices)) in
    (λ j. added j ++ others) ∙ append_assoc text line others ∙ (λ j. text ++ (is j ++ others))
    ∙ (λ j. text ++ device_lines (map device_view (sym (from devices i d there at) j))) ∙ sofar
