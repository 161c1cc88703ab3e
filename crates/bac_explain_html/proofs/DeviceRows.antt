-- One more row below the rows of the devices before it.
use Rattle.std.proofs.Common.{◌≡◌, ◌∙◌, ◌+◌, ◌<◌, ℕ, suc, List, ◌∷◌, ◌++◌, length, drop, map, get_or, sym, append_assoc, arith}
use Rattle.std.proofs.Math.Seq.{drop-cons}
use Rattle.bac_explain_report.specs.DeviceViews.{device_view}
use Rattle.bac_explain_report.specs.declared.devices.Device.{Device}
use Rattle.bac_explain_html.specs.Pages.{device_row, device_rows}

-- the device at an index, and the others behind it
from : (devices : List Device) (i : ℕ) (d : Device) → i < length devices → d ≡ get_or devices i d → drop i devices ≡ d ∷ drop (i + 1) devices
from devices i d there at =
    let next : suc i ≡ i + 1 = omega arith in
    drop-cons devices i d there ∙ (λ j. sym at j ∷ drop (next j) devices)

pub one_row_more : (devices : List Device) (i : ℕ) (d : Device) (text row longer : List ℕ) → i < length devices → d ≡ get_or devices i d
    → row ≡ device_row (device_view d) → longer ≡ text ++ row
    → text ++ device_rows (map device_view (drop i devices)) ≡ device_rows (map device_view devices)
    → longer ++ device_rows (map device_view (drop (i + 1) devices)) ≡ device_rows (map device_view devices)
one_row_more devices i d text row longer there at is added sofar =
    let others : List ℕ = device_rows (map device_view (drop (i + 1) devices)) in
    (λ j. added j ++ others) ∙ append_assoc text row others ∙ (λ j. text ++ (is j ++ others))
    ∙ (λ j. text ++ device_rows (map device_view (sym (from devices i d there at) j))) ∙ sofar
