-- The counts, the rows of the servers, and the end of the page.
use Rattle.std.proofs.Common.{◌≡◌, ◌∙◌, ap, refl, map, string_bytes, vec_items}
use Rattle.bac_explain_report.specs.DeviceViews.{device_view}
use Rattle.bac_explain_html.specs.Pages.{device_rows, section}
use Rattle.bac_explain_html.proofs.Told.{added}
use Rattle.bac_explain_html.proofs.page.last_part.Goals as goal

pub returns : goal.returns
returns c =
    let counts : string_bytes c.in_ok-section.field-0 ≡ section c.args.tally = c.in_ok-section.ensures in
    let rows : c.in_ok-rows.rows.items ≡ device_rows (map device_view c.args.devices.now) = c.in_ok-rows.ensures in
    added _ _ _ _ _ c.in_ok-extend_from_slice-4.ensures.items
    (added _ _ _ _ _ c.in_ok-extend_from_slice-3.ensures.items
    (added _ _ _ _ _ c.in_ok-extend_from_slice-2.ensures.items
    (added _ _ _ _ _ c.in_ok-extend_from_slice.ensures.items (ap (λ v. vec_items v) c.into_bytes-text.ensures.value ∙ counts) c.as_bytes.ensures.value)
    (c.deref.ensures.value ∙ rows)) refl) c.as_bytes-2.ensures.value
